-- The base of unsigned intervals.
use Rattle.std.specs.Prelude.{◌^◌, ◌<◌, true, false}
use Rattle.base_trait.specs.Algebra.{Algebra, Words}
use Rattle.base_trait.specs.NoNotes.{no_notes}
use Rattle.base_interval.specs.Compare.{compared}
use Rattle.base_interval.specs.Join.{join_of}
use Rattle.base_interval.specs.Members.{exact_of, members_of, size_of}
use Rattle.base_interval.specs.Operations.{op1_range, op2_range}
use Rattle.base_interval.specs.Range.{Holds, has, Fits, is_of, from_to, one, all, is_within}
use Rattle.base_interval.specs.Sext.{sext_of}
use Rattle.base_interval.specs.Trunc.{trunc_of}
use Rattle.base_interval.specs.Widen.{widen_of, rank_of}
use Rattle.base_interval.specs.Zext.{zext_of}
use Rattle.base_interval.specs.declared.range.Range.{Range}

abbrev pub words : Words Range (Unit {0})
words = record {
  describes = λ valuation w n x. Holds x n × (n < 2 ^ w);
  fits = λ c w x. Fits w x;
  fits_test = λ c w x. is_of w x;
  looks = false;
  constant = λ c w v. one v;
  any = λ c w. all w;
  range = λ c w low high. from_to low high;
  op1 = λ c op w x. op1_range op w x;
  op2 = λ c op w x y. op2_range op w x y;
  cmp = λ c k w x y. compared k w x y;
  zext = λ c from to x. zext_of x;
  sext = λ c from to x. sext_of from to x;
  trunc = λ c from to x. trunc_of to x;
  join = λ c w x y. join_of x y;
  widen = λ c w old new. widen_of w old new;
  absorbs = λ c w old new. is_within old new;
  rank = λ c w x. rank_of w x;
  height = λ w. 2;
  exact = λ c w x. exact_of x;
  may = λ c w x k. has x k;
  members = λ c w x limit. members_of x limit;
  size = λ c w x. size_of x;
}

abbrev pub interval : Algebra Range (Unit {0}) (Unit {0})
interval = record { joins = true; words = words; notes = no_notes }

-- The base of affine forms. A context is the list of the tracked cells: each is a field of the state and a key.
use Rattle.std.specs.Prelude.{ℕ, ◌^◌, ◌<◌, true, List, length}
use Rattle.word_operations.specs.Casts.{zext_of, sext_of, trunc_of}
use Rattle.base_trait.specs.Algebra.{Algebra, Words}
use Rattle.base_trait.specs.NoNotes.{no_notes}
use Rattle.semantics_values.specs.declared.entry.KeyAt.{KeyAt}
use Rattle.domain_affine_base.specs.Compare.{compared}
use Rattle.domain_affine_base.specs.Join.{join_of, is_absorbing, rank_of, range_of}
use Rattle.domain_affine_base.specs.Members.{exact_of, may_be, size_of, members_of}
use Rattle.domain_affine_base.specs.Operations.{op1_word, op2_word, cast_word}
use Rattle.domain_affine_base.specs.Words.{Stands, Fits, fits_word}
use Rattle.domain_affine_base.specs.declared.word.Word.{Word}
use Rattle.domain_affine_base.specs.declared.word.Word.TheVariants.{Any, Const}

abbrev pub words : Words Word (List (ℕ × KeyAt))
words = record {
  describes = λ valuation w n x. Stands valuation x n × (n < 2 ^ w);
  fits = λ c w x. Fits (length c) w x;
  fits_test = λ c w x. fits_word (length c) w x;
  looks = true;
  constant = λ c w v. Const v;
  any = λ c w. Any;
  range = λ c w low high. range_of low high;
  op1 = λ c op w x. op1_word op w x;
  op2 = λ c op w x y. op2_word op w x y;
  cmp = λ c k w x y. compared k w x y;
  zext = λ c from to x. cast_word (zext_of from to) x;
  sext = λ c from to x. cast_word (sext_of from to) x;
  trunc = λ c from to x. cast_word (trunc_of from to) x;
  join = λ c w x y. join_of x y;
  widen = λ c w old new. join_of old new;
  absorbs = λ c w old new. is_absorbing old new;
  rank = λ c w x. rank_of x;
  height = λ w. 1;
  exact = λ c w x. exact_of x;
  may = λ c w x k. may_be x k;
  members = λ c w x limit. members_of w x limit;
  size = λ c w x. size_of w x;
}

abbrev pub affine : Algebra Word (Unit {0}) (List (ℕ × KeyAt))
affine = record { joins = true; words = words; notes = no_notes }

-- What pairs tell of claims: what either part does. Of sums, the first part that tells of them.
use Rattle.std.specs.Prelude.{◌&&◌, ◌||◌, if◌then◌else◌}
use Rattle.analysis_query_laws.specs.Answers.{Telling}

module _ {E F : Type 0} (K : Telling E) (L : Telling F) where
  abbrev pub pairs_tell : Telling (E × F)
  pairs_tell = record {
    takes_ranges = K.takes_ranges || L.takes_ranges;
    takes_sums = K.takes_sums || L.takes_sums;
    tracked = if K.takes_sums then K.tracked else L.tracked;
    in_range = λ x field key lo hi. (K.takes_ranges && K.in_range x.0 field key lo hi) || (L.takes_ranges && L.in_range x.1 field key lo hi);
    excludes = λ x field key v. (K.takes_ranges && K.excludes x.0 field key v) || (L.takes_ranges && L.excludes x.1 field key v);
    meets = λ x form. if K.takes_sums then K.meets x.0 form else L.meets x.1 form;
  }

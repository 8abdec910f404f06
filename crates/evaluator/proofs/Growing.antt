-- Logs and memos that have only grown.
use Rattle.std.proofs.Common.{List}
use Rattle.base_trait.specs.Lists.{IsGrown}
use Rattle.base_trait.specs.Uses.{Seen}
use Rattle.eval_memo.specs.Memos.{Remembered}
use Rattle.eval_memo.proofs.Growth.{grown_itself, grown_on}
use Rattle.evaluator.specs.Runs.{HaveGrown}

module _ {W N : Type 0} where
  pub no_more : (l : List Seen) (es : List (Remembered W N)) → HaveGrown l l es es
  no_more l es = record { log = grown_itself l; memo = grown_itself es }

  pub grown_then : {l m n : List Seen} {es fs gs : List (Remembered W N)} → HaveGrown l m es fs → HaveGrown m n fs gs → HaveGrown l n es gs
  grown_then {l} {m} {n} {es} {fs} {gs} h k = record { log = grown_on l m n h.log k.log; memo = grown_on es fs gs h.memo k.memo }

  pub log_then : {l m : List Seen} {es fs : List (Remembered W N)} → HaveGrown l m es fs → (n : List Seen) → IsGrown m n → HaveGrown l n es fs
  log_then {l} {m} {es} {fs} h n k = record { log = grown_on l m n h.log k; memo = h.memo }

  pub log_alone : (l m : List Seen) (es : List (Remembered W N)) → IsGrown l m → HaveGrown l m es es
  log_alone l m es h = record { log = h; memo = grown_itself es }

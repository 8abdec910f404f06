-- When two words are the same.
use Rattle.std.specs.Prelude.{refl}
use Rattle.std.proofs.Common.{ap}
use Rattle.std.specs.Hash as fed
use Rattle.std.specs.Cmp.{IsEquivalence, IsPartialEquivalence}
use Rattle.support_modular_rows.proofs.Equal.{equal_forms}
use Rattle.base_trait.specs.Identity.{IsIdentity, IsReflexive, identity_equiv, identity_partial}
use Rattle.base_trait.proofs.Lists.{number_itself, number_told}
use Rattle.domain_affine_base.specs.Words.{same_word}
use Rattle.domain_affine_base.specs.declared.word.Word.{Word}
use Rattle.domain_affine_base.specs.declared.word.Word.TheVariants.{Any, Const, Form}

pub same_word_itself : IsReflexive same_word
same_word_itself Any = refl
same_word_itself (Const n) = number_itself n
same_word_itself (Form f) = (equal_forms f f).1 refl

pub same_word_is : IsIdentity same_word
same_word_is Any Any h = refl
same_word_is (Const m) (Const n) h = ap Const (number_told m n h)
same_word_is (Form f) (Form g) h = ap Form ((equal_forms f g).0 h)
same_word_is Any (Const n) h = cc
same_word_is Any (Form g) h = cc
same_word_is (Const m) Any h = cc
same_word_is (Const m) (Form g) h = cc
same_word_is (Form f) Any h = cc
same_word_is (Form f) (Const n) h = cc

pub same_word_equiv : IsEquivalence same_word
same_word_equiv = identity_equiv same_word same_word_itself same_word_is

pub same_word_partial : IsPartialEquivalence same_word
same_word_partial = identity_partial same_word same_word_itself same_word_is

-- what a hash is fed
abbrev pub fed_word : Word → fed.HashWrites
fed_word Any = fed.u32 0
fed_word (Const n) = fed.u64 n
fed_word (Form f) = fed.slice fed.u32 f

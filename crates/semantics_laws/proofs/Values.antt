-- Values of a type, and what the forms of a term give on them.
use Rattle.std.proofs.Common.{◌≡◌, ℕ, zero, suc, ◌^◌, ◌<◌, Bool, true, cond, ◌==◌, Option, Some, None, option_map, option_and_then, List, [], ◌∷◌, ◌++◌, slice_get, refl, ap, ◌∙◌, subst}
use Rattle.std.specs.Prelude.{nat_le, nat_lt}
use Rattle.std.specs.List.{list_all}
use Rattle.std.proofs.lemmas.Bool.{false≢true, eqb-true as same_number, lt-ltb as less_is, ltb-true as is_less, le-leb as at_most_is}
use Rattle.word_operations.specs.declared.kinds.UnaryOperation.{UnaryOperation}
use Rattle.word_operations.specs.declared.kinds.BinaryOperation.{BinaryOperation}
use Rattle.word_operations.specs.declared.kinds.WordComparison.{WordComparison}
use Rattle.word_operations.specs.Op1.{op1_of}
use Rattle.word_operations.specs.Op2.{op2_of}
use Rattle.word_operations.specs.Cmp.{cmp_of}
use Rattle.word_operations.specs.Width.{IsWidth}
use Rattle.word_operations.proofs.Fits.{op1_of_fits, op2_of_fits, zext_of_fits, sext_of_fits, trunc_of_fits}
use Rattle.spec_match_compiler.proofs.Truth.{and_left, and_right, both, equal_itself}
use Rattle.spec_ir.specs.declared.ty.Ty.{Ty}
use Rattle.spec_ir.specs.declared.ty.Ty.TheVariants.{Bool as Flag, Word}
use Rattle.spec_ir.specs.declared.term.CastKind.{CastKind}
use Rattle.spec_ir.specs.Environment.{Environment}
use Rattle.spec_ir.specs.TermTypes.{CastFits}
use Rattle.spec_ir.specs.WellFormed.{is_type, is_width}
use Rattle.spec_ir.proofs.Checks.{width_is as width_from}
use Rattle.semantics_values.specs.Values as v
use Rattle.semantics_values.specs.Values.{Val, vals}
use Rattle.semantics_values.specs.Types.{has_type, have_types}
use Rattle.semantics.specs.Steps.{is_word, number, unary, binary, compared, resized, casts, cast_of}

pub width_to : (w : ℕ) → IsWidth w → is_width w ≡ true
width_to w h = both (nat_le 1 w) (nat_le w 64) (at_most_is 1 w h.0) (at_most_is w 64 h.1)

module _ (env : Environment) where
  -- A value has a type, which is one of the environment.
  pub record IsOf (ty : Ty) (p : Val) : Type 0 where
    pub has : has_type env p ty ≡ true
    pub is : is_type env ty ≡ true

  abbrev pub AreOf : List Ty → List Val → Type 0
  AreOf [] [] = Unit {0}
  AreOf (t ∷ ts) (p ∷ ps) = IsOf t p × AreOf ts ps
  AreOf _ _ = ⊥

  pub are_append : (ts us : List Ty) (ps qs : List Val) → AreOf ts ps → AreOf us qs → AreOf (ts ++ us) (ps ++ qs)
  are_append [] us [] qs h k = k
  are_append [] us (p ∷ ps) qs h k = absurd h
  are_append (t ∷ ts) us [] qs h k = absurd h
  are_append (t ∷ ts) us (p ∷ ps) qs h k = (h.0, are_append ts us ps qs h.1 k)

  pub are_from : (ts : List Ty) (ps : List Val) → have_types env (vals ps) ts ≡ true → list_all (is_type env) ts ≡ true → AreOf ts ps
  are_from [] [] h k = tt
  are_from [] (p ∷ ps) h k = absurd (false≢true h)
  are_from (t ∷ ts) [] h k = absurd (false≢true h)
  are_from (t ∷ ts) (p ∷ ps) h k = (
    record {
      has = and_left (has_type env p t) (have_types env (vals ps) ts) h;
      is = and_left (is_type env t) (list_all (is_type env) ts) k;
    },
    are_from ts ps (and_right (has_type env p t) (have_types env (vals ps) ts) h) (and_right (is_type env t) (list_all (is_type env) ts) k),
  )

  pub are_to : (ts : List Ty) (ps : List Val) → AreOf ts ps → have_types env (vals ps) ts ≡ true
  are_to [] [] h = refl
  are_to [] (p ∷ ps) h = absurd h
  are_to (t ∷ ts) [] h = absurd h
  are_to (t ∷ ts) (p ∷ ps) h = both (has_type env p t) (have_types env (vals ps) ts) h.0.has (are_to ts ps h.1)

  -- a value that is there
  pub record There (ty : Ty) (o : Option Val) : Type 0 where
    pub value : Val
    pub is : o ≡ Some value
    pub of : IsOf ty value

  pub are_at : (ts : List Ty) (ps : List Val) (n : ℕ) (ty : Ty) → AreOf ts ps → slice_get ts n ≡ Some ty → There ty (slice_get ps n)
  are_at [] ps n ty h e = absurd cc
  are_at (t ∷ ts) [] n ty h e = absurd h
  are_at (t ∷ ts) (p ∷ ps) zero ty h e = let same : t ≡ ty = cc in record { value = p; is = refl; of = subst (λ z. IsOf z p) same h.0 }
  are_at (t ∷ ts) (p ∷ ps) (suc n) ty h e = are_at ts ps n ty h.1 e

  -- ---- words
  pub record IsNumber (w : ℕ) (p : Val) : Type 0 where
    pub x : ℕ
    pub is : p ≡ v.word w x
    pub number_is : number w p ≡ Some x
    pub below : x < 2 ^ w

  number_of : (w x : ℕ) → is_width w ≡ true → nat_lt x (2 ^ w) ≡ true → number w (v.word w x) ≡ Some x
  number_of w x h k = let word : is_word w x ≡ true = both (is_width w) (nat_lt x (2 ^ w)) h k in rw (equal_itself w, word) refl

  pub number_there : (w : ℕ) (p : Val) → IsOf (Word w) p → IsNumber w p
  number_there w (v.word u x) h =
      let same = same_number u w (and_left (u == w) (nat_lt x (2 ^ w)) h.has) in
      let small = and_right (u == w) (nat_lt x (2 ^ w)) h.has in
      record {
        x = x;
        is = ap (λ z. v.word z x) same;
        number_is = ap (λ z. number w (v.word z x)) same ∙ number_of w x h.is small;
        below = is_less x (2 ^ w) small;
      }
  number_there w (v.flag b) h = absurd (false≢true h.has)
  number_there w (v.made ty c ps) h = absurd (false≢true h.has)
  number_there w (v.map m rest cells) h = absurd (false≢true h.has)

  pub word_of : (w x : ℕ) → is_width w ≡ true → x < 2 ^ w → IsOf (Word w) (v.word w x)
  word_of w x h k = record { has = both (w == w) (nat_lt x (2 ^ w)) (equal_itself w) (less_is x (2 ^ w) k); is = h }

  pub flag_of : (b : Bool) → IsOf Flag (v.flag b)
  flag_of b = record { has = refl; is = refl }

  pub flag_there : (p : Val) → IsOf Flag p → (b : Bool) × (p ≡ v.flag b)
  flag_there (v.flag b) h = (b, refl)
  flag_there (v.word w x) h = absurd (false≢true h.has)
  flag_there (v.made ty c ps) h = absurd (false≢true h.has)
  flag_there (v.map m rest cells) h = absurd (false≢true h.has)

  pub unary_there : (op : UnaryOperation) (w : ℕ) (p : Val) → IsOf (Word w) p → There (Word w) (unary op w p)
  unary_there op w p h =
      let n = number_there w p h in
      record {
        value = v.word w (op1_of op w n.x);
        is = ap (λ z. option_map (λ x. v.word w (op1_of op w x)) z) n.number_is;
        of = word_of w (op1_of op w n.x) h.is (op1_of_fits op w n.x (width_from w h.is) n.below);
      }

  pub binary_there : (op : BinaryOperation) (w : ℕ) (p q : Val) → IsOf (Word w) p → IsOf (Word w) q → There (Word w) (binary op w p q)
  binary_there op w p q h k =
      let m = number_there w p h in
      let n = number_there w q k in
      record {
        value = v.word w (op2_of op w m.x n.x);
        is =
            ap (λ z. option_and_then (λ x. option_map (λ y. v.word w (op2_of op w x y)) (number w q)) z) m.number_is
            ∙ ap (λ z. option_map (λ y. v.word w (op2_of op w m.x y)) z) n.number_is;
        of = word_of w (op2_of op w m.x n.x) h.is (op2_of_fits op w m.x n.x (width_from w h.is) m.below n.below);
      }

  pub compared_there : (c : WordComparison) (w : ℕ) (p q : Val) → IsOf (Word w) p → IsOf (Word w) q → There Flag (compared c w p q)
  compared_there c w p q h k =
      let m = number_there w p h in
      let n = number_there w q k in
      record {
        value = v.flag (cmp_of c w m.x n.x);
        is =
            ap (λ z. option_and_then (λ x. option_map (λ y. v.flag (cmp_of c w x y)) (number w q)) z) m.number_is
            ∙ ap (λ z. option_map (λ y. v.flag (cmp_of c w m.x y)) z) n.number_is;
        of = flag_of (cmp_of c w m.x n.x);
      }

  casts_is : (kind : CastKind) (from to : ℕ) → IsWidth from → IsWidth to → CastFits kind from to → casts kind from to ≡ true
  casts_is CastKind.Zero from to h k f = both (nat_le from to) (nat_le to 64) (at_most_is from to f) (at_most_is to 64 k.1)
  casts_is CastKind.Sign from to h k f = both (nat_le from to) (nat_le to 64) (at_most_is from to f) (at_most_is to 64 k.1)
  casts_is CastKind.Cut from to h k f = both (nat_le 1 to) (nat_le to from) (at_most_is 1 to k.0) (at_most_is to from f)

  cast_fits : (kind : CastKind) (from to x : ℕ) → CastFits kind from to → x < 2 ^ from → cast_of kind from to x < 2 ^ to
  cast_fits CastKind.Zero from to x f h = zext_of_fits from to x f h
  cast_fits CastKind.Sign from to x f h = sext_of_fits from to x
  cast_fits CastKind.Cut from to x f h = trunc_of_fits from to x

  pub resized_there : (kind : CastKind) (from to : ℕ) (p : Val) → IsOf (Word from) p → IsWidth to → CastFits kind from to → There (Word to) (resized kind from to p)
  resized_there kind from to p h k f =
      let n = number_there from p h in
      record {
        value = v.word to (cast_of kind from to n.x);
        is =
            ap (λ b. cond b (option_map (λ x. v.word to (cast_of kind from to x)) (number from p)) None) (casts_is kind from to (width_from from h.is) k f)
            ∙ ap (λ z. option_map (λ x. v.word to (cast_of kind from to x)) z) n.number_is;
        of = word_of to (cast_of kind from to n.x) (width_to to k) (cast_fits kind from to n.x f n.below);
      }

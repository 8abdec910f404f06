-- The keys of uses are told by their texts.
use Rattle.std.proofs.Common.{◌≡◌, ◌<◌, ℕ, Bool, true, false, List, [], ◌∷◌, Option, Some, None, refl, sym, subst, inl, inr, bytes_eq}
use Rattle.std.specs.Prelude.{IfSome, codes}
use Rattle.std.specs.List.{list_all}
use Rattle.std.proofs.lemmas.Bool.{and_parts, cases_Bool}
use Rattle.std.proofs.lemmas.Option.{same_Some}
use Rattle.std.proofs.lemmas.Slice.Eq.{bytes_eq-Decides}
use Rattle.spec_ir.specs.declared.ty.Ty.TheVariants.{Map as MapOf}
use Rattle.spec_ir.specs.Specification.{Spec}
use Rattle.semantics_values.specs.Types.{environment_of, key_count}
use Rattle.state_cell_text.specs.Keys.{key_text, keys_of}
use Rattle.text_words.specs.Options.{mapped}
use Rattle.state_text.specs.Forms.{is_key, is_word_byte}
use Rattle.state_text.specs.Laws.{IsKeyType}
use Rattle.state_text.proofs.Bytes.{apart}
use Rattle.state_text.proofs.Computed.{key_word}
use Rattle.text_lines.specs.Lines.{is_inside}
use Rattle.text_part_readers.specs.Keys.{key_in}
use Rattle.text_part_readers.proofs.Fitting.{key_in_type}
use Rattle.text_round_trips.proofs.Keys.{is_other, key_back, key_told}
use Rattle.text_table_reader.specs.Ends.{use_key}

-- where a test fails of a byte, what passes it is without that byte
pub all_others : (test : ℕ → Bool) (b : ℕ) (text : List ℕ) → test b ≡ false → list_all test text ≡ true → list_all (is_other b) text ≡ true
all_others test b [] fails h = refl
all_others test b (c ∷ text) fails h =
    let both = and_parts (test c) (list_all test text) h in
    rw (apart test c b both.0 fails) (all_others test b text fails both.1)

module _ (spec : Spec) (m : ℕ) where
  -- the text of a key, or of any
  abbrev pub use_key_text : Option ℕ → List ℕ
  use_key_text None = codes "*"
  use_key_text (Some k) = key_text spec (keys_of spec (MapOf m)) k

  -- the key is one of the map's, if one is given
  abbrev pub IsKeyOfMap : Option ℕ → Type 0
  IsKeyOfMap key = IfSome key (λ k. k < key_count (environment_of spec) (keys_of spec (MapOf m)))

  pub use_key_tells : (text : List ℕ) (key : Option ℕ) → use_key spec m text ≡ Some key → (use_key_text key ≡ text) × IsKeyOfMap key
  use_key_tells text key h = elim (cases_Bool (bytes_eq text (codes "*"))) [
    | inl e ↦ subst (λ k. (use_key_text k ≡ text) × IsKeyOfMap k) (same_Some None key (rw e at h)) (sym ((bytes_eq-Decides text (codes "*")).0 e), tt)
    | inr e ↦
        let made = mapped Some (key_in spec (keys_of spec (MapOf m)) text) key (rw e at h) in
        subst (λ k. (use_key_text k ≡ text) × IsKeyOfMap k) made.gives
        (key_told spec (keys_of spec (MapOf m)) text made.from made.is, key_in_type spec (keys_of spec (MapOf m)) text made.from made.is)
  ]

  -- a text of letters and digits is no star
  no_star : (text : List ℕ) → is_key text ≡ true → bytes_eq text (codes "*") ≡ false
  no_star text h = elim (cases_Bool (bytes_eq text (codes "*"))) [
    | inl e ↦ absurd (let bad : is_key (codes "*") ≡ true = subst (λ t. is_key t ≡ true) ((bytes_eq-Decides text (codes "*")).0 e) h in let worse : false ≡ true = bad in cc)
    | inr e ↦ e
  ]

  -- What the text of a key is.
  pub record KeyRead (key : Option ℕ) : Type 0 where
    pub read : use_key spec m (use_key_text key) ≡ Some key
    pub closed : list_all (is_other 93) (use_key_text key) ≡ true
    pub inside : list_all is_inside (use_key_text key) ≡ true

  pub use_key_back : (key : Option ℕ) → IsKeyType spec (keys_of spec (MapOf m)) → IsKeyOfMap key → KeyRead key
  use_key_back None is within = record { read = refl; closed = refl; inside = refl }
  use_key_back (Some k) is within =
      let back = key_back spec (keys_of spec (MapOf m)) k is within in
      let word = key_word (use_key_text (Some k)) back.1 in
      record {
        read = rw (no_star (use_key_text (Some k)) back.1, back.0) refl;
        closed = all_others is_word_byte 93 (use_key_text (Some k)) refl word;
        inside = all_others is_word_byte 10 (use_key_text (Some k)) refl word;
      }

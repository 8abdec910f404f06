-- Values put side by side.
use Rattle.std.proofs.Common.{◌≡◌, ℕ, List, [], ◌∷◌, zero, suc, Bool, true, false, sym, ◌∙◌, subst, IsTrue}
use Rattle.std.specs.Prelude.{⊤, ◌<◌}
use Rattle.base_trait.specs.Algebra.{Algebra, can_be}
use Rattle.base_trait.specs.Laws.{Laws}
use Rattle.base_trait.specs.declared.tri.Tri.{Tri}
use Rattle.base_trait.specs.declared.uses.Stamp.{Stamp}
use Rattle.base_trait.proofs.Tests.{and_both}
use Rattle.base_product.specs.Meaning.{both_allow, paired}
use Rattle.abstract_map_laws.specs.Laws.{HasRoom}
use Rattle.semantics_values.specs.Values as v
use Rattle.semantics_values.specs.Values.{Val, Vals}
use Rattle.abstract_value_laws.specs.Abs.{Abs, Cases, Parts, flag, word, made, map, no_case, absent, present, no_part, part}
use Rattle.abstract_value_laws.specs.Describes.{CaseDescribes, Describes, PartsDescribe as FieldsDescribe, held_at}
use Rattle.abstract_value_laws.specs.Fits.{CasesFit, Fits, PartsFit as FieldsFit}
use Rattle.abstract_value_laws.specs.Shapes.{CaseShapes, CasesHave, CasesList, HasShape, ListsStamps, PartShapes, PartsHave, PartsList as FieldsList, Shape, case_then, datas, field_then, flags, maps, no_field, no_more, words}
use Rattle.domain_laws.specs.declared.field.Field.{Field}
use Rattle.domain_laws.specs.declared.field.Field.TheVariants as field
use Rattle.domain_laws.specs.States.{StateType}
use Rattle.domain_laws.specs.Values.{AreOf, IsOf, IsStateForm}
use Rattle.domain_product_laws.specs.Calls.{zip_cases, zip_parts, zip_value}
use Rattle.domain_product_laws.proofs.ZippedMaps.{zip_keys, zip_map_describes, zip_map_fits, zip_map_lists}

both_can : (t u : Tri) (b : Bool) → IsTrue (can_be t b) → IsTrue (can_be u b) → IsTrue (can_be (both_allow t u) b)
both_can t u true h k = and_both t.may_true u.may_true h k
both_can t u false h k = and_both t.may_false u.may_false h k

-- ---- two values whose widths are the same wherever both have a word or a map
module _ {V W M N : Type 0} where
  abbrev mutual
    pub Meet : Abs V M → Abs W N → Type 0
    Meet (word w x) (word u y) = w ≡ u
    Meet (made ty cs) (made tz ds) = CasesMeet cs ds
    Meet (map m x) (map n y) = x.width ≡ y.width
    Meet _ _ = ⊤

    pub CasesMeet : Cases V M → Cases W N → Type 0
    CasesMeet (absent cs) (absent ds) = CasesMeet cs ds
    CasesMeet (absent cs) (present ys ds) = CasesMeet cs ds
    CasesMeet (present xs cs) (absent ds) = CasesMeet cs ds
    CasesMeet (present xs cs) (present ys ds) = PartsMeet xs ys × CasesMeet cs ds
    CasesMeet _ _ = ⊤

    pub PartsMeet : Parts V M → Parts W N → Type 0
    PartsMeet (part x xs) (part y ys) = Meet x y × PartsMeet xs ys
    PartsMeet _ _ = ⊤

  -- values of one shape are such
  mutual
    pub meet : (s : Shape) (x : Abs V M) (y : Abs W N) → HasShape s x → HasShape s y → Meet x y
    meet (words w) (word u x) (word k y) h g = h ∙ sym g
    meet (datas ty ss) (made tz cs) (made tu ds) h g = cases_meet ss cs ds h.1 g.1
    meet (maps m w) (map n x) (map k y) h g = h.1 ∙ sym g.1
    meet flags (word _ _) _ h g = absurd h
    meet flags (made _ _) _ h g = absurd h
    meet flags (map _ _) _ h g = absurd h
    meet (words w) (made _ _) _ h g = absurd h
    meet (words w) (map _ _) _ h g = absurd h
    meet (datas ty ss) (word _ _) _ h g = absurd h
    meet (datas ty ss) (map _ _) _ h g = absurd h
    meet (maps m w) (word _ _) _ h g = absurd h
    meet (maps m w) (made _ _) _ h g = absurd h
    meet _ _ _ h g = tt

    cases_meet : (ss : CaseShapes) (cs : Cases V M) (ds : Cases W N) → CasesHave ss cs → CasesHave ss ds → CasesMeet cs ds
    cases_meet (case_then s ss) (absent cs) (absent ds) h g = cases_meet ss cs ds h g
    cases_meet (case_then s ss) (absent cs) (present ys ds) h g = cases_meet ss cs ds h g.1
    cases_meet (case_then s ss) (present xs cs) (absent ds) h g = cases_meet ss cs ds h.1 g
    cases_meet (case_then s ss) (present xs cs) (present ys ds) h g = (parts_meet s xs ys h.0 g.0, cases_meet ss cs ds h.1 g.1)
    cases_meet no_more (absent _) _ h g = absurd h
    cases_meet no_more (present _ _) _ h g = absurd h
    cases_meet _ _ _ h g = tt

    parts_meet : (ss : PartShapes) (xs : Parts V M) (ys : Parts W N) → PartsHave ss xs → PartsHave ss ys → PartsMeet xs ys
    parts_meet (field_then s ss) (part x xs) (part y ys) h g = (meet s x y h.0 g.0, parts_meet ss xs ys h.1 g.1)
    parts_meet no_field (part _ _) _ h g = absurd h
    parts_meet _ _ _ h g = tt

  -- and values of states of one type
  field_meets : (t : Field) (x : Abs V M) (y : Abs W N) → IsOf t x → IsOf t y → Meet x y
  field_meets (field.Word w) (word u x) (word k y) h g = h ∙ sym g
  field_meets (field.Map m bound w d) (map n x) (map k y) h g = h.1 ∙ sym g.1
  field_meets (field.Word w) (made _ _) _ h g = absurd h
  field_meets (field.Word w) (map _ _) _ h g = absurd h
  field_meets (field.Map m bound w d) (word _ _) _ h g = absurd h
  field_meets (field.Map m bound w d) (made _ _) _ h g = absurd h
  field_meets _ _ _ h g = tt

  fields_meet : (fields : List Field) (xs : Parts V M) (ys : Parts W N) → AreOf fields xs → AreOf fields ys → PartsMeet xs ys
  fields_meet (t ∷ fields) (part x xs) (part y ys) h g = (field_meets t x y h.0 g.0, fields_meet fields xs ys h.1 g.1)
  fields_meet [] (part _ _) _ h g = absurd h
  fields_meet _ _ _ h g = tt

  pub states_meet : (t : StateType) (x : Abs V M) (y : Abs W N) → IsStateForm t x → IsStateForm t y → Meet x y
  states_meet t (made ty (present (part (word w x) xs) no_case)) y h g = at_second y g
    where
      at_second : (y : Abs W N) → IsStateForm t y → Meet (made ty (present (part (word w x) xs) no_case)) y
      at_second (made tz (present (part (word u y) ys) no_case)) g = ((h.1 ∙ sym g.1, fields_meet t.fields xs ys h.2 g.2), tt)
      at_second _ g = absurd g
  states_meet _ _ _ h g = absurd h

module _ {V W M N C D : Type 0} (A : Algebra V M C) (B : Algebra W N D) (a : Laws V M C A) (b : Laws W N D B) (c : C × D) (cap : ℕ) where
  -- ---- shape
  mutual
    pub shapes : (s : Shape) (x : Abs V M) (y : Abs W N) → HasShape s x → HasShape s y → HasShape s (zip_value A B c cap x y)
    shapes flags (flag t) (flag u) h g = tt
    shapes (words w) (word u x) (word k y) h g = h
    shapes (datas ty ss) (made tz cs) (made tu ds) h g = (h.0, cases_shape ss cs ds h.1 g.1)
    shapes (maps m w) (map n x) (map k y) h g = h
    shapes flags (flag t) (word _ _) h g = absurd g
    shapes flags (flag t) (made _ _) h g = absurd g
    shapes flags (flag t) (map _ _) h g = absurd g
    shapes (words w) (word u x) (flag _) h g = absurd g
    shapes (words w) (word u x) (made _ _) h g = absurd g
    shapes (words w) (word u x) (map _ _) h g = absurd g
    shapes (datas ty ss) (made tz cs) (flag _) h g = absurd g
    shapes (datas ty ss) (made tz cs) (word _ _) h g = absurd g
    shapes (datas ty ss) (made tz cs) (map _ _) h g = absurd g
    shapes (maps m w) (map n x) (flag _) h g = absurd g
    shapes (maps m w) (map n x) (word _ _) h g = absurd g
    shapes (maps m w) (map n x) (made _ _) h g = absurd g
    shapes _ _ _ h g = absurd h

    cases_shape : (ss : CaseShapes) (cs : Cases V M) (ds : Cases W N) → CasesHave ss cs → CasesHave ss ds → CasesHave ss (zip_cases A B c cap cs ds)
    cases_shape no_more no_case no_case h g = tt
    cases_shape (case_then s ss) (absent cs) (absent ds) h g = cases_shape ss cs ds h g
    cases_shape (case_then s ss) (absent cs) (present ys ds) h g = cases_shape ss cs ds h g.1
    cases_shape (case_then s ss) (present xs cs) (absent ds) h g = cases_shape ss cs ds h.1 g
    cases_shape (case_then s ss) (present xs cs) (present ys ds) h g = (parts_shape s xs ys h.0 g.0, cases_shape ss cs ds h.1 g.1)
    cases_shape no_more no_case (absent _) h g = absurd g
    cases_shape no_more no_case (present _ _) h g = absurd g
    cases_shape (case_then s ss) (absent cs) no_case h g = absurd g
    cases_shape (case_then s ss) (present xs cs) no_case h g = absurd g
    cases_shape _ _ _ h g = absurd h

    parts_shape : (ss : PartShapes) (xs : Parts V M) (ys : Parts W N) → PartsHave ss xs → PartsHave ss ys → PartsHave ss (zip_parts A B c cap xs ys)
    parts_shape no_field no_part no_part h g = tt
    parts_shape (field_then s ss) (part x xs) (part y ys) h g = (shapes s x y h.0 g.0, parts_shape ss xs ys h.1 g.1)
    parts_shape no_field no_part (part _ _) h g = absurd g
    parts_shape (field_then s ss) (part x xs) no_part h g = absurd g
    parts_shape _ _ _ h g = absurd h

  -- ---- fitting
  module _ (room : HasRoom (paired A B) cap) where
    mutual
      pub fits : (x : Abs V M) (y : Abs W N) → Meet x y → Fits A c.0 cap x → Fits B c.1 cap y → Fits (paired A B) c cap (zip_value A B c cap x y)
      fits (word w x) (word u y) e h g = (h.0, (h.1, subst (λ t. B.words.fits c.1 t y) (sym e) g.1))
      fits (made ty cs) (made tz ds) e h g = cases_fit cs ds e h g
      fits (map m x) (map n y) e h g = zip_map_fits A B a b c cap x y h g e room
      fits (flag _) (flag _) e h g = tt
      fits (flag _) (word _ _) e h g = tt
      fits (flag _) (made _ _) e h g = tt
      fits (flag _) (map _ _) e h g = tt
      fits (word _ _) (flag _) e h g = tt
      fits (word _ _) (made _ _) e h g = tt
      fits (word _ _) (map _ _) e h g = tt
      fits (made _ _) (flag _) e h g = tt
      fits (made _ _) (word _ _) e h g = tt
      fits (made _ _) (map _ _) e h g = tt
      fits (map _ _) (flag _) e h g = tt
      fits (map _ _) (word _ _) e h g = tt
      fits (map _ _) (made _ _) e h g = tt

      cases_fit : (cs : Cases V M) (ds : Cases W N) → CasesMeet cs ds → CasesFit A c.0 cap cs → CasesFit B c.1 cap ds → CasesFit (paired A B) c cap (zip_cases A B c cap cs ds)
      cases_fit (absent cs) (absent ds) e h g = cases_fit cs ds e h g
      cases_fit (absent cs) (present ys ds) e h g = cases_fit cs ds e h g.1
      cases_fit (present xs cs) (absent ds) e h g = cases_fit cs ds e h.1 g
      cases_fit (present xs cs) (present ys ds) e h g = (parts_fit xs ys e.0 h.0 g.0, cases_fit cs ds e.1 h.1 g.1)
      cases_fit _ _ e h g = tt

      parts_fit : (xs : Parts V M) (ys : Parts W N) → PartsMeet xs ys → FieldsFit A c.0 cap xs → FieldsFit B c.1 cap ys → FieldsFit (paired A B) c cap (zip_parts A B c cap xs ys)
      parts_fit (part x xs) (part y ys) e h g = (fits x y e.0 h.0 g.0, parts_fit xs ys e.1 h.1 g.1)
      parts_fit _ _ e h g = tt

  -- ---- stamps
  module _ (stamps : List Stamp) where
    mutual
      pub lists : (x : Abs V M) (y : Abs W N) → ListsStamps A stamps x → ListsStamps B stamps y → ListsStamps (paired A B) stamps (zip_value A B c cap x y)
      lists (made ty cs) (made tz ds) h g = cases_list cs ds h g
      lists (map m x) (map n y) h g = zip_map_lists A B a b c cap x y stamps h g
      lists (flag _) (flag _) h g = tt
      lists (flag _) (word _ _) h g = tt
      lists (flag _) (made _ _) h g = tt
      lists (flag _) (map _ _) h g = tt
      lists (word _ _) (flag _) h g = tt
      lists (word _ _) (word _ _) h g = tt
      lists (word _ _) (made _ _) h g = tt
      lists (word _ _) (map _ _) h g = tt
      lists (made _ _) (flag _) h g = tt
      lists (made _ _) (word _ _) h g = tt
      lists (made _ _) (map _ _) h g = tt
      lists (map _ _) (flag _) h g = tt
      lists (map _ _) (word _ _) h g = tt
      lists (map _ _) (made _ _) h g = tt

      cases_list : (cs : Cases V M) (ds : Cases W N) → CasesList A stamps cs → CasesList B stamps ds → CasesList (paired A B) stamps (zip_cases A B c cap cs ds)
      cases_list (absent cs) (absent ds) h g = cases_list cs ds h g
      cases_list (absent cs) (present ys ds) h g = cases_list cs ds h g.1
      cases_list (present xs cs) (absent ds) h g = cases_list cs ds h.1 g
      cases_list (present xs cs) (present ys ds) h g = (parts_list xs ys h.0 g.0, cases_list cs ds h.1 g.1)
      cases_list _ _ h g = tt

      parts_list : (xs : Parts V M) (ys : Parts W N) → FieldsList A stamps xs → FieldsList B stamps ys → FieldsList (paired A B) stamps (zip_parts A B c cap xs ys)
      parts_list (part x xs) (part y ys) h g = (lists x y h.0 g.0, parts_list xs ys h.1 g.1)
      parts_list _ _ h g = tt

  -- ---- describing: what the parts describe in their valuations they describe in a third
  module _ (u o z : List ℕ) (left : (w n : ℕ) (t : V) → A.words.describes u w n t → A.words.describes z w n t) (right : (w n : ℕ) (t : W) → B.words.describes o w n t → B.words.describes z w n t) where
    mutual
      pub described : (x : Abs V M) (y : Abs W N) (n : Val) → Meet x y → Fits A c.0 cap x → Fits B c.1 cap y → Describes A u x n → Describes B o y n → Describes (paired A B) z (zip_value A B c cap x y) n
      described (flag t) (flag s) (v.flag p) e fx fy h g = both_can t s p h g
      described (word w x) (word k y) (v.word i n) e fx fy h g = (h.0, (left w n x h.1, subst (λ t. B.words.describes z t n y) (sym e) (right k n y g.1)))
      described (made ty cs) (made tz ds) (v.made i k ps) e fx fy h g = (h.0, cases_described cs ds k ps e fx fy h.1 g.1)
      described (map m x) (map k y) (v.map i rest cells) e fx fy h g = (h.0, zip_map_describes A B a b c cap x y fx fy e u o z left right (held_at rest cells) h.1 g.1)
      described (flag t) (word _ _) (v.flag p) e fx fy h g = absurd g
      described (flag t) (made _ _) (v.flag p) e fx fy h g = absurd g
      described (flag t) (map _ _) (v.flag p) e fx fy h g = absurd g
      described (word w x) (flag _) (v.word i n) e fx fy h g = absurd g
      described (word w x) (made _ _) (v.word i n) e fx fy h g = absurd g
      described (word w x) (map _ _) (v.word i n) e fx fy h g = absurd g
      described (made ty cs) (flag _) (v.made i k ps) e fx fy h g = absurd g
      described (made ty cs) (word _ _) (v.made i k ps) e fx fy h g = absurd g
      described (made ty cs) (map _ _) (v.made i k ps) e fx fy h g = absurd g
      described (map m x) (flag _) (v.map i rest cells) e fx fy h g = absurd g
      described (map m x) (word _ _) (v.map i rest cells) e fx fy h g = absurd g
      described (map m x) (made _ _) (v.map i rest cells) e fx fy h g = absurd g
      described _ _ _ e fx fy h g = absurd h

      cases_described : (cs : Cases V M) (ds : Cases W N) (k : ℕ) (ps : Vals) → CasesMeet cs ds → CasesFit A c.0 cap cs → CasesFit B c.1 cap ds
          → CaseDescribes A u cs k ps → CaseDescribes B o ds k ps → CaseDescribes (paired A B) z (zip_cases A B c cap cs ds) k ps
      cases_described (absent cs) (absent ds) (suc k) ps e fx fy h g = cases_described cs ds k ps e fx fy h g
      cases_described (absent cs) (present ys ds) (suc k) ps e fx fy h g = cases_described cs ds k ps e fx fy.1 h g
      cases_described (present xs cs) (absent ds) (suc k) ps e fx fy h g = cases_described cs ds k ps e fx.1 fy h g
      cases_described (present xs cs) (present ys ds) (suc k) ps e fx fy h g = cases_described cs ds k ps e.1 fx.1 fy.1 h g
      cases_described (present xs cs) (present ys ds) zero ps e fx fy h g = parts_described xs ys ps e.0 fx.0 fy.0 h g
      cases_described (absent cs) _ zero ps e fx fy h g = absurd h
      cases_described no_case _ _ ps e fx fy h g = absurd h
      cases_described (present xs cs) (absent ds) zero ps e fx fy h g = absurd g
      cases_described _ no_case _ ps e fx fy h g = absurd g

      parts_described : (xs : Parts V M) (ys : Parts W N) (ps : Vals) → PartsMeet xs ys → FieldsFit A c.0 cap xs → FieldsFit B c.1 cap ys
          → FieldsDescribe A u xs ps → FieldsDescribe B o ys ps → FieldsDescribe (paired A B) z (zip_parts A B c cap xs ys) ps
      parts_described no_part no_part v.no_val e fx fy h g = tt
      parts_described (part x xs) (part y ys) (v.val_then p ps) e fx fy h g = (described x y p e.0 fx.0 fy.0 h.0 g.0, parts_described xs ys ps e.1 fx.1 fy.1 h.1 g.1)
      parts_described no_part (part _ _) v.no_val e fx fy h g = absurd g
      parts_described (part x xs) no_part (v.val_then p ps) e fx fy h g = absurd g
      parts_described _ _ _ e fx fy h g = absurd h

  -- ---- the form of states
  zip_is : (t : Field) (x : Abs V M) (y : Abs W N) → IsOf t x → IsOf t y → IsOf t (zip_value A B c cap x y)
  zip_is (field.Word w) (word u x) (word k y) h g = h
  zip_is (field.Map m bound w d) (map n x) (map k y) h g = (h.0, h.1, zip_keys A B a b c cap x y (λ i. i < bound) h.2 g.2)
  zip_is (field.Word w) (word u x) (flag t) h g = absurd g
  zip_is (field.Word w) (word u x) (made ty cs) h g = absurd g
  zip_is (field.Word w) (word u x) (map m y) h g = absurd g
  zip_is (field.Map m bound w d) (map n x) (flag t) h g = absurd g
  zip_is (field.Map m bound w d) (map n x) (word u y) h g = absurd g
  zip_is (field.Map m bound w d) (map n x) (made ty cs) h g = absurd g
  zip_is _ _ _ h g = absurd h

  zip_are : (fields : List Field) (xs : Parts V M) (ys : Parts W N) → AreOf fields xs → AreOf fields ys → AreOf fields (zip_parts A B c cap xs ys)
  zip_are [] no_part no_part h g = tt
  zip_are (t ∷ fields) (part x xs) (part y ys) h g = (zip_is t x y h.0 g.0, zip_are fields xs ys h.1 g.1)
  zip_are [] no_part (part _ _) h g = absurd g
  zip_are (t ∷ fields) (part x xs) no_part h g = absurd g
  zip_are _ _ _ h g = absurd h

  pub zip_form : (t : StateType) (x : Abs V M) (y : Abs W N) → IsStateForm t x → IsStateForm t y → IsStateForm t (zip_value A B c cap x y)
  zip_form t (made ty (present (part (word w x) xs) no_case)) y h g = at_second y g
    where
      at_second : (y : Abs W N) → IsStateForm t y → IsStateForm t (zip_value A B c cap (made ty (present (part (word w x) xs) no_case)) y)
      at_second (made tz (present (part (word u y) ys) no_case)) g = (h.0, h.1, zip_are t.fields xs ys h.2 g.2)
      at_second _ g = absurd g
  zip_form _ _ _ h g = absurd h

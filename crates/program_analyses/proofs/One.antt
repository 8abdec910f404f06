-- Over the bytes that names hold, each command has one outcome, up to the rows in texts.
use Rattle.std.proofs.Common.{◌≡◌, inl, inr, Some, refl, sym, ◌∙◌, subst}
use Rattle.std.specs.Prelude.{Result, Ok, Err}
use Rattle.spec_ir.specs.declared.spec.Machine.{Machine as Numbers}
use Rattle.spec_ir.specs.Specification.{Spec}
use Rattle.program_domains.specs.Named.{Done}
use Rattle.program_domains.proofs.Readings.{conversions_are_one, conversions_have_some}
use Rattle.program_common.specs.Outcome.{Refusal}
use Rattle.program_common.specs.Reading.{Holds}
use Rattle.program_common.specs.Steps.{Then, refused, goes_on}
use Rattle.program_common.proofs.OneSource.{one_held, some_held}
use Rattle.program_common.proofs.Steps.{IsOne, total}
use Rattle.program_machine.specs.Inputs.{CodedOf, PosedOf, SoughtOf, claims_cap, table_cap}
use Rattle.program_machine.proofs.InputSingle.{one_coded, one_posed, one_sought, some_coded, some_posed, some_sought}
use Rattle.program_machine.proofs.Problems.{coded_has_states, posed_has_machine, posed_has_words, some_machine, sought_parts}
use Rattle.program_analyses.specs.Laws.{AnalyseHasOne, AnalyseHasSome, AreOneAnalysis, AreOneConversion, CheckHasOne, CheckHasSome, ClaimsHasOne, ClaimsHasSome, ConvertHasOne, ConvertHasSome, SliceHasOne, SliceHasSome}
use Rattle.program_analyses.specs.Problems.{check_task_in, claims_task_in, problem_in, slice_task_in, task_in}
use Rattle.program_analyses.specs.Steps.{AnalysisOf, CheckOf, ClaimsOf, ConversionOf, SliceOf}
use Rattle.program_analyses.proofs.Chains.{both_behind, claims_behind, table_behind}
use Rattle.program_analyses.proofs.Either.{check_is_one, check_is_some, claims_is_one, claims_is_some, slice_is_one, slice_is_some}
use Rattle.program_analyses.proofs.Problems.{either_has_some, either_is_one, read_is_well_posed}

-- ---- what two chains give, where their first steps give one thing

module _ {A B : Type 0} (first : Result A Refusal → Type 0) (next : A → Result B Refusal → Type 0) (Same : Result B Refusal → Result B Refusal → Type 0) (itself : (found : Result B Refusal) → Same found found) where
  same_next : IsOne first → ((given : A) → first (Ok given) → (found other : Result B Refusal) → next given found → next given other → Same found other)
      → (found other : Result B Refusal) → Then first next found → Then first next other → Same found other
  same_next one_first one_next found other (refused {refusal = e} p) (refused {refusal = f} q) =
      let same = one_first (Err e) (Err f) p q in
      let refusals : found ≡ other = cc in
      subst (λ o. Same found o) refusals (itself found)
  same_next one_first one_next found other (refused {refusal = e} p) (goes_on {given = a} q r) =
      let same = one_first (Err e) (Ok a) p q in absurd (cc)
  same_next one_first one_next found other (goes_on {given = a} p r) (refused {refusal = e} q) =
      let same = one_first (Ok a) (Err e) p q in absurd (cc)
  same_next one_first one_next found other (goes_on {given = a} p r) (goes_on {given = b} q t) =
      let same = one_first (Ok a) (Ok b) p q in
      let given : a ≡ b = cc in
      one_next b q found other (subst (λ (x : A). next x found) given r) t

one_machine : (spec : Spec) (m n : Numbers) → spec.machine ≡ Some m → spec.machine ≡ Some n → m ≡ n
one_machine spec m n p q = let same : Some m ≡ Some n = sym p ∙ q in cc

pub analyse_has_one : AnalyseHasOne
analyse_has_one held request found other few p q =
    same_next (PosedOf (Holds held) request.spec request.code request.entry) (AnalysisOf request) (AreOneAnalysis held request) (λ o. inl refl) (one_posed held request.spec request.code request.entry) (λ posed is found other a b.
    let same = one_machine posed.spec a.machine b.machine a.is_machine b.is_machine in
    let one = either_is_one (problem_in request posed b.machine) posed.image request.base (read_is_well_posed (Holds held) request posed b.machine few is b.is_machine) request.open found other
    (subst (λ (m : Numbers). Done posed.image (task_in request (problem_in request posed m)) request.base found) same a.analysed) b.analysed in
    inr (posed, is, one)) found other p q

pub analyse_has_some : AnalyseHasSome
analyse_has_some held request few =
    total (PosedOf (Holds held) request.spec request.code request.entry) (AnalysisOf request) (some_posed held request.spec request.code request.entry) (λ posed is.
    let m = some_machine posed.spec.machine (posed_has_machine (Holds held) request.spec request.code request.entry posed is) in
    let found = either_has_some (problem_in request posed m.0) posed.image request.base (read_is_well_posed (Holds held) request posed m.0 few is m.1) request.open in
    (found.0, record { machine = m.0; is_machine = m.1; analysed = found.1 }))

-- ---- checks

pub check_has_one : CheckHasOne
check_has_one held request found other few p q =
    let asked = request.analysis in
    same_next (PosedOf (Holds held) asked.spec asked.code asked.entry) (λ posed. table_behind request.table (CheckOf asked posed) (Holds held)) (λ x y. x ≡ y) (λ o. refl) (one_posed held asked.spec asked.code asked.entry) (λ posed is.
    same_next (Holds held table_cap request.table) (CheckOf asked posed) (λ x y. x ≡ y) (λ o. refl) (one_held held table_cap request.table) (λ bytes holds found other a b.
    let same = one_machine posed.spec a.machine b.machine a.is_machine b.is_machine in
    check_is_one posed.image (problem_in asked posed b.machine) asked.base bytes (read_is_well_posed (Holds held) asked posed b.machine few is b.is_machine) asked.open found other
    (subst (λ (m : Numbers). Done posed.image (check_task_in asked (problem_in asked posed m) bytes) asked.base found) same a.checked) b.checked)) found other p q

pub check_has_some : CheckHasSome
check_has_some held request few =
    let asked = request.analysis in
    total (PosedOf (Holds held) asked.spec asked.code asked.entry) (λ posed. table_behind request.table (CheckOf asked posed) (Holds held)) (some_posed held asked.spec asked.code asked.entry) (λ posed is.
    total (Holds held table_cap request.table) (CheckOf asked posed) (some_held held table_cap request.table (held request.table) refl) (λ bytes holds.
    let m = some_machine posed.spec.machine (posed_has_machine (Holds held) asked.spec asked.code asked.entry posed is) in
    let found = check_is_some posed.image (problem_in asked posed m.0) asked.base bytes
    (read_is_well_posed (Holds held) asked posed m.0 few is m.1) (λ a there. posed_has_words (Holds held) asked.spec asked.code asked.entry posed few is a there) asked.open in
    (found.0, record { machine = m.0; is_machine = m.1; checked = found.1 })))

-- ---- conversions

pub convert_has_one : ConvertHasOne
convert_has_one held request found other few p q =
    same_next (CodedOf (Holds held) request.spec request.code) (λ coded. table_behind request.table (ConversionOf request.base coded) (Holds held)) (AreOneConversion held request) (λ o. inl refl) (one_coded held request.spec request.code) (λ coded is.
    same_next (Holds held table_cap request.table) (ConversionOf request.base coded) (AreOneConversion held request) (λ o. inl refl) (one_held held table_cap request.table) (λ bytes holds found other a b.
    inr (coded, is, conversions_are_one coded.image coded.spec request.base bytes found other (coded_has_states (Holds held) request.spec request.code coded is) a b))) found other p q

pub convert_has_some : ConvertHasSome
convert_has_some held request few =
    total (CodedOf (Holds held) request.spec request.code) (λ coded. table_behind request.table (ConversionOf request.base coded) (Holds held)) (some_coded held request.spec request.code) (λ coded is.
    total (Holds held table_cap request.table) (ConversionOf request.base coded) (some_held held table_cap request.table (held request.table) refl) (λ bytes holds.
    conversions_have_some coded.image coded.spec request.base bytes (coded_has_states (Holds held) request.spec request.code coded is)))

-- ---- slices

pub slice_has_one : SliceHasOne
slice_has_one held request found other few p q =
    let asked = request.check.analysis in
    same_next (SoughtOf (Holds held) asked.spec request.cell asked.code asked.entry) (λ sought. table_behind request.check.table (SliceOf asked sought request.address) (Holds held)) (λ x y. x ≡ y) (λ o. refl)
    (one_sought held asked.spec asked.code request.cell asked.entry) (λ sought is.
    same_next (Holds held table_cap request.check.table) (SliceOf asked sought request.address) (λ x y. x ≡ y) (λ o. refl) (one_held held table_cap request.check.table) (λ bytes holds found other a b.
    let posed = sought.posed in
    let parts = sought_parts (Holds held) asked.spec asked.code asked.entry request.cell sought is in
    let same = one_machine posed.spec a.machine b.machine a.is_machine b.is_machine in
    slice_is_one posed.image (problem_in asked posed b.machine) asked.base bytes (read_is_well_posed (Holds held) asked posed b.machine few parts.posed b.is_machine) request.address sought.asked asked.open found other
    (subst (λ (m : Numbers). Done posed.image (slice_task_in asked (problem_in asked posed m) bytes request.address sought.asked) asked.base found) same a.sliced) b.sliced)) found other p q

pub slice_has_some : SliceHasSome
slice_has_some held request few =
    let asked = request.check.analysis in
    total (SoughtOf (Holds held) asked.spec request.cell asked.code asked.entry) (λ sought. table_behind request.check.table (SliceOf asked sought request.address) (Holds held))
    (some_sought held asked.spec asked.code request.cell asked.entry) (λ sought is.
    total (Holds held table_cap request.check.table) (SliceOf asked sought request.address) (some_held held table_cap request.check.table (held request.check.table) refl) (λ bytes holds.
    let posed = sought.posed in
    let read = (sought_parts (Holds held) asked.spec asked.code asked.entry request.cell sought is).posed in
    let m = some_machine posed.spec.machine (posed_has_machine (Holds held) asked.spec asked.code asked.entry posed read) in
    let found = slice_is_some posed.image (problem_in asked posed m.0) asked.base bytes
    (read_is_well_posed (Holds held) asked posed m.0 few read m.1) request.address sought.asked (λ a there. posed_has_words (Holds held) asked.spec asked.code asked.entry posed few read a there) asked.open in
    (found.0, record { machine = m.0; is_machine = m.1; sliced = found.1 })))

-- ---- claims

pub claims_has_one : ClaimsHasOne
claims_has_one held request found other few p q =
    let asked = request.check.analysis in
    same_next (PosedOf (Holds held) asked.spec asked.code asked.entry) (λ posed. both_behind request.check.table request.claims (ClaimsOf asked posed) (Holds held)) (λ x y. x ≡ y) (λ o. refl)
    (one_posed held asked.spec asked.code asked.entry) (λ posed is.
    same_next (Holds held table_cap request.check.table) (λ bytes. claims_behind request.claims (ClaimsOf asked posed bytes) (Holds held)) (λ x y. x ≡ y) (λ o. refl) (one_held held table_cap request.check.table) (λ bytes holds.
    same_next (Holds held claims_cap request.claims) (ClaimsOf asked posed bytes) (λ x y. x ≡ y) (λ o. refl) (one_held held claims_cap request.claims) (λ claims claimed found other a b.
    let same = one_machine posed.spec a.machine b.machine a.is_machine b.is_machine in
    claims_is_one posed.image (problem_in asked posed b.machine) asked.base bytes (read_is_well_posed (Holds held) asked posed b.machine few is b.is_machine) claims asked.open found other
    (subst (λ (m : Numbers). Done posed.image (claims_task_in asked (problem_in asked posed m) bytes claims) asked.base found) same a.claimed) b.claimed))) found other p q

pub claims_has_some : ClaimsHasSome
claims_has_some held request few =
    let asked = request.check.analysis in
    total (PosedOf (Holds held) asked.spec asked.code asked.entry) (λ posed. both_behind request.check.table request.claims (ClaimsOf asked posed) (Holds held)) (some_posed held asked.spec asked.code asked.entry) (λ posed is.
    total (Holds held table_cap request.check.table) (λ bytes. claims_behind request.claims (ClaimsOf asked posed bytes) (Holds held)) (some_held held table_cap request.check.table (held request.check.table) refl) (λ bytes holds.
    total (Holds held claims_cap request.claims) (ClaimsOf asked posed bytes) (some_held held claims_cap request.claims (held request.claims) refl) (λ claims claimed.
    let m = some_machine posed.spec.machine (posed_has_machine (Holds held) asked.spec asked.code asked.entry posed is) in
    let found = claims_is_some posed.image (problem_in asked posed m.0) asked.base bytes
    (read_is_well_posed (Holds held) asked posed m.0 few is m.1) claims (λ a there. posed_has_words (Holds held) asked.spec asked.code asked.entry posed few is a there) asked.open in
    (found.0, record { machine = m.0; is_machine = m.1; claimed = found.1 }))))

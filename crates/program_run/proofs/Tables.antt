-- The table that an analysis gives, the one that a check accepts, and what slices and claims tell of one.
use Rattle.std.proofs.Common.{◌≡◌, ℕ, ◌≤◌, List, Option, Some, IsTrue, length, subst, true, false}
use Rattle.std.specs.Prelude.{Ok}
use Rattle.support_command_line.specs.Bases.{is_stamped}
use Rattle.support_command_line.specs.Requests.{AnalyseRequest, CheckRequest, ClaimsRequest, Request, SliceRequest, analyse, check, claims, slice}
use Rattle.support_command_line.specs.Words.{asked}
use Rattle.program_domains.specs.Checks.{accepted_line}
use Rattle.program_common.specs.Outcome.{text}
use Rattle.program_common.specs.Reading.{Held, Holds, whole}
use Rattle.program_common.proofs.Steps.{opened}
use Rattle.program_analyses.specs.Steps.{AnalyseSteps, AnalysisOf, CheckOf, CheckSteps, ClaimsOf, ClaimsSteps, SliceOf, SliceSteps}
use Rattle.program_analyses.proofs.Accepted.{check_accepts, open_check_accepts}
use Rattle.program_analyses.proofs.Chains.{both_behind, claims_behind, table_behind}
use Rattle.program_analyses.proofs.Holding.{claims_hold, open_claims_hold, open_slice_holds, slice_holds}
use Rattle.program_analyses.proofs.Problems.{is_open_tabled, is_tabled, read_is_well_posed}
use Rattle.program_machine.specs.Inputs.{AnalysisInputs, PosedOf, SliceInputs, SoughtOf, claims_cap, table_cap}
use Rattle.program_machine.proofs.Problems.{posed_has_words}
use Rattle.program_run.specs.Owed.{IsOwed}
use Rattle.program_run.specs.Steps.{Steps}
use Rattle.program_run.specs.Tables.{AreClaimsFor, AreOpenClaimsFor, IsAcceptedFor, IsOpenAcceptedFor, IsOpenSliceFor, IsOpenTableFor, IsSliceFor, IsTableFor}
use Rattle.program_run.proofs.Parts.{few_asked, stamped_slice}

module _ (held : Held) where
  held_bytes : (cap : ℕ) (name bytes : List ℕ) → Holds held cap name (Ok bytes) → held name ≡ Some bytes
  held_bytes cap name bytes (whole is fits) = is

  -- the chains, taken apart
  table_of : (request : AnalyseRequest) (bytes : List ℕ) → request.open ≡ false → AnalyseSteps (Holds held) request (Ok (text bytes)) → IsTableFor held request bytes
  table_of request bytes closed steps =
      let posed = opened (PosedOf (Holds held) request.spec request.code request.entry) (AnalysisOf request) (text bytes) steps in
      record { posed = posed.0; is_posed = posed.1; tabled = is_tabled request posed.0 bytes closed posed.2 }

  open_table_of : (request : AnalyseRequest) (bytes : List ℕ) → request.open ≡ true → AnalyseSteps (Holds held) request (Ok (text bytes)) → IsOpenTableFor held request bytes
  open_table_of request bytes left_open steps =
      let posed = opened (PosedOf (Holds held) request.spec request.code request.entry) (AnalysisOf request) (text bytes) steps in
      record { posed = posed.0; is_posed = posed.1; tabled = is_open_tabled request posed.0 bytes left_open posed.2 }

  -- a check, with the table that it is of
  record Checking (request : CheckRequest) (line : List ℕ) : Type 0 where
    pub posed : AnalysisInputs
    pub bytes : List ℕ
    pub is_posed : PosedOf (Holds held) request.analysis.spec request.analysis.code request.analysis.entry (Ok posed)
    pub is_held : held request.table ≡ Some bytes
    pub checked : CheckOf request.analysis posed bytes (Ok (text line))

  checking : (request : CheckRequest) (line : List ℕ) → CheckSteps (Holds held) request (Ok (text line)) → Checking request line
  checking request line steps =
      let wanted = request.analysis in
      let posed = opened (PosedOf (Holds held) wanted.spec wanted.code wanted.entry) (λ p. table_behind request.table (CheckOf wanted p) (Holds held)) (text line) steps in
      let table = opened (Holds held table_cap request.table) (CheckOf wanted posed.0) (text line) posed.2 in
      record { posed = posed.0; bytes = table.0; is_posed = posed.1; is_held = held_bytes table_cap request.table table.0 table.1; checked = table.2 }

  acceptance_of : (request : CheckRequest) (line : List ℕ) → request.analysis.open ≡ false → CheckSteps (Holds held) request (Ok (text line)) → IsAcceptedFor held request × (line ≡ accepted_line)
  acceptance_of request line closed steps =
      let c = checking request line steps in
      let accepted = check_accepts request.analysis c.posed c.bytes line closed c.checked in
      (record { posed = c.posed; bytes = c.bytes; is_posed = c.is_posed; is_held = c.is_held; accepted = accepted.0 }, accepted.1)

  open_acceptance_of : (request : CheckRequest) (line : List ℕ) → request.analysis.open ≡ true → CheckSteps (Holds held) request (Ok (text line)) → IsOpenAcceptedFor held request × (line ≡ accepted_line)
  open_acceptance_of request line left_open steps =
      let c = checking request line steps in
      let accepted = open_check_accepts request.analysis c.posed c.bytes line left_open c.checked in
      (record { posed = c.posed; bytes = c.bytes; is_posed = c.is_posed; is_held = c.is_held; accepted = accepted.0 }, accepted.1)

  -- a slice, with the table that it is of
  record Slicing (request : SliceRequest) (line : List ℕ) : Type 0 where
    pub sought : SliceInputs
    pub bytes : List ℕ
    pub is_sought : SoughtOf (Holds held) request.check.analysis.spec request.cell request.check.analysis.code request.check.analysis.entry (Ok sought)
    pub is_held : held request.check.table ≡ Some bytes
    pub sliced : SliceOf request.check.analysis sought request.address bytes (Ok (text line))

  slicing : (request : SliceRequest) (line : List ℕ) → SliceSteps (Holds held) request (Ok (text line)) → Slicing request line
  slicing request line steps =
      let wanted = request.check.analysis in
      let sought = opened (SoughtOf (Holds held) wanted.spec request.cell wanted.code wanted.entry) (λ s. table_behind request.check.table (SliceOf wanted s request.address) (Holds held)) (text line) steps in
      let table = opened (Holds held table_cap request.check.table) (SliceOf wanted sought.0 request.address) (text line) sought.2 in
      record { sought = sought.0; bytes = table.0; is_sought = sought.1; is_held = held_bytes table_cap request.check.table table.0 table.1; sliced = table.2 }

  slice_of : (request : SliceRequest) (line : List ℕ) → IsTrue (is_stamped request.check.analysis.base) → request.check.analysis.open ≡ false → SliceSteps (Holds held) request (Ok (text line)) → IsSliceFor held request line
  slice_of request line stamped closed steps =
      let s = slicing request line steps in
      record {
        sought = s.sought;
        bytes = s.bytes;
        is_sought = s.is_sought;
        is_held = s.is_held;
        sliced = slice_holds request.check.analysis s.sought request.address s.bytes line stamped closed s.sliced;
      }

  open_slice_of : (request : SliceRequest) (line : List ℕ) → IsTrue (is_stamped request.check.analysis.base) → request.check.analysis.open ≡ true → SliceSteps (Holds held) request (Ok (text line)) → IsOpenSliceFor held request line
  open_slice_of request line stamped left_open steps =
      let s = slicing request line steps in
      record {
        sought = s.sought;
        bytes = s.bytes;
        is_sought = s.is_sought;
        is_held = s.is_held;
        sliced = open_slice_holds request.check.analysis s.sought request.address s.bytes line stamped left_open s.sliced;
      }

  -- claims, with the table that they are on
  record Claiming (request : ClaimsRequest) (line : List ℕ) : Type 0 where
    pub posed : AnalysisInputs
    pub bytes : List ℕ
    pub list : List ℕ
    pub is_posed : PosedOf (Holds held) request.check.analysis.spec request.check.analysis.code request.check.analysis.entry (Ok posed)
    pub is_held : held request.check.table ≡ Some bytes
    pub are_held : held request.claims ≡ Some list
    pub claimed : ClaimsOf request.check.analysis posed bytes list (Ok (text line))

  claiming : (request : ClaimsRequest) (line : List ℕ) → ClaimsSteps (Holds held) request (Ok (text line)) → Claiming request line
  claiming request line steps =
      let wanted = request.check.analysis in
      let posed = opened (PosedOf (Holds held) wanted.spec wanted.code wanted.entry) (λ p. both_behind request.check.table request.claims (ClaimsOf wanted p) (Holds held)) (text line) steps in
      let table = opened (Holds held table_cap request.check.table) (λ t. claims_behind request.claims (ClaimsOf wanted posed.0 t) (Holds held)) (text line) posed.2 in
      let list = opened (Holds held claims_cap request.claims) (ClaimsOf wanted posed.0 table.0) (text line) table.2 in
      record {
        posed = posed.0;
        bytes = table.0;
        list = list.0;
        is_posed = posed.1;
        is_held = held_bytes table_cap request.check.table table.0 table.1;
        are_held = held_bytes claims_cap request.claims list.0 list.1;
        claimed = list.2;
      }

  claims_of : (request : ClaimsRequest) (line : List ℕ) → length request.check.analysis.code.parts ≤ 16 → request.check.analysis.open ≡ false → ClaimsSteps (Holds held) request (Ok (text line)) → AreClaimsFor held request line
  claims_of request line few closed steps =
      let wanted = request.check.analysis in
      let c = claiming request line steps in
      record {
        posed = c.posed;
        table_bytes = c.bytes;
        claims_bytes = c.list;
        is_posed = c.is_posed;
        is_held = c.is_held;
        are_held = c.are_held;
        claimed = claims_hold wanted c.posed c.bytes c.list line (λ m is. read_is_well_posed (Holds held) wanted c.posed m few c.is_posed is)
            (λ m a there. posed_has_words (Holds held) wanted.spec wanted.code wanted.entry c.posed few c.is_posed a there) closed c.claimed;
      }

  open_claims_of : (request : ClaimsRequest) (line : List ℕ) → length request.check.analysis.code.parts ≤ 16 → request.check.analysis.open ≡ true → ClaimsSteps (Holds held) request (Ok (text line)) → AreOpenClaimsFor held request line
  open_claims_of request line few left_open steps =
      let wanted = request.check.analysis in
      let c = claiming request line steps in
      record {
        posed = c.posed;
        table_bytes = c.bytes;
        claims_bytes = c.list;
        is_posed = c.is_posed;
        is_held = c.is_held;
        are_held = c.are_held;
        claimed = open_claims_hold wanted c.posed c.bytes c.list line (λ m is. read_is_well_posed (Holds held) wanted c.posed m few c.is_posed is)
            (λ m a there. posed_has_words (Holds held) wanted.spec wanted.code wanted.entry c.posed few c.is_posed a there) left_open c.claimed;
      }

module _ (words : List (List ℕ)) (held : Held) where
  -- texts that are owed
  pub owed_table : (request : AnalyseRequest) (bytes : List ℕ) → asked words ≡ Some (analyse request) → request.open ≡ false → IsOwed words held (Ok (text bytes)) → IsTableFor held request bytes
  owed_table request bytes asks closed owed = table_of held request bytes closed (subst (λ (what : Option Request). Steps (Holds held) what (Ok (text bytes))) asks owed)

  pub owed_open_table : (request : AnalyseRequest) (bytes : List ℕ) → asked words ≡ Some (analyse request) → request.open ≡ true → IsOwed words held (Ok (text bytes)) → IsOpenTableFor held request bytes
  owed_open_table request bytes asks left_open owed = open_table_of held request bytes left_open (subst (λ (what : Option Request). Steps (Holds held) what (Ok (text bytes))) asks owed)

  pub owed_acceptance : (request : CheckRequest) (line : List ℕ) → asked words ≡ Some (check request) → request.analysis.open ≡ false → IsOwed words held (Ok (text line)) → IsAcceptedFor held request × (line ≡ accepted_line)
  owed_acceptance request line asks closed owed = acceptance_of held request line closed (subst (λ (what : Option Request). Steps (Holds held) what (Ok (text line))) asks owed)

  pub owed_open_acceptance : (request : CheckRequest) (line : List ℕ) → asked words ≡ Some (check request) → request.analysis.open ≡ true → IsOwed words held (Ok (text line)) → IsOpenAcceptedFor held request × (line ≡ accepted_line)
  owed_open_acceptance request line asks left_open owed = open_acceptance_of held request line left_open (subst (λ (what : Option Request). Steps (Holds held) what (Ok (text line))) asks owed)

  pub owed_slice : (request : SliceRequest) (bytes : List ℕ) → asked words ≡ Some (slice request) → request.check.analysis.open ≡ false → IsOwed words held (Ok (text bytes)) → IsSliceFor held request bytes
  owed_slice request bytes asks closed owed = slice_of held request bytes (stamped_slice words request asks) closed (subst (λ (what : Option Request). Steps (Holds held) what (Ok (text bytes))) asks owed)

  pub owed_open_slice : (request : SliceRequest) (bytes : List ℕ) → asked words ≡ Some (slice request) → request.check.analysis.open ≡ true → IsOwed words held (Ok (text bytes)) → IsOpenSliceFor held request bytes
  owed_open_slice request bytes asks left_open owed = open_slice_of held request bytes (stamped_slice words request asks) left_open (subst (λ (what : Option Request). Steps (Holds held) what (Ok (text bytes))) asks owed)

  pub owed_claims : (request : ClaimsRequest) (bytes : List ℕ) → asked words ≡ Some (claims request) → request.check.analysis.open ≡ false → IsOwed words held (Ok (text bytes)) → AreClaimsFor held request bytes
  owed_claims request bytes asks closed owed = claims_of held request bytes (few_asked words (claims request) asks) closed (subst (λ (what : Option Request). Steps (Holds held) what (Ok (text bytes))) asks owed)

  pub owed_open_claims : (request : ClaimsRequest) (bytes : List ℕ) → asked words ≡ Some (claims request) → request.check.analysis.open ≡ true → IsOwed words held (Ok (text bytes)) → AreOpenClaimsFor held request bytes
  owed_open_claims request bytes asks left_open owed = open_claims_of held request bytes (few_asked words (claims request) asks) left_open (subst (λ (what : Option Request). Steps (Holds held) what (Ok (text bytes))) asks owed)

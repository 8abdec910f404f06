-- What a command is asked for: its words, and the values of its options.
use Rattle.std.specs.Prelude.{ℕ, Bool, List}
use Rattle.support_command_line.specs.declared.bases.BaseName.{BaseName}
use Rattle.support_command_line.specs.Code.{Code}
use Rattle.support_command_line.specs.SpecNames.{SpecName}

-- the value of a function on numbers, with so many turns for an activation
pub record CallRequest : Type 0 where
  pub spec : SpecName
  pub fun : List ℕ
  pub numbers : List (List ℕ)
  pub calls : ℕ

-- a run from an entry, of at most so many steps
pub record EmulateRequest : Type 0 where
  pub spec : SpecName
  pub code : Code
  pub entry : List ℕ
  pub steps : ℕ
  pub calls : ℕ

-- An analysis over a base, where a counter has at most so many values, so many changes of an element join before later ones
-- widen, and an element is split so often over. Left open, an address of which the analysis can not say what comes next ends no analysis; a table that is read may leave
-- such addresses open.
pub record AnalyseRequest : Type 0 where
  pub spec : SpecName
  pub code : Code
  pub entry : List ℕ
  pub base : BaseName
  pub limit : ℕ
  pub joins : ℕ
  pub cases : ℕ
  pub «open» : Bool

-- a table, against what it should be a table of
pub record CheckRequest : Type 0 where
  pub analysis : AnalyseRequest
  pub table : List ℕ

pub record ConvertRequest : Type 0 where
  pub spec : SpecName
  pub code : Code
  pub table : List ℕ
  pub base : BaseName

pub record ListRequest : Type 0 where
  pub spec : SpecName
  pub code : Code

-- the definitions that a read of a cell at an address may depend on, by a table
pub record SliceRequest : Type 0 where
  pub check : CheckRequest
  pub address : ℕ
  pub cell : List ℕ

-- claims, against a table
pub record ClaimsRequest : Type 0 where
  pub check : CheckRequest
  pub claims : List ℕ

-- code of so many words, made from a number
pub record StressRequest : Type 0 where
  pub number : ℕ
  pub count : ℕ
  pub base : BaseName

pub data Request : Type 0 where
  call : CallRequest → Request
  emulate : EmulateRequest → Request
  analyse : AnalyseRequest → Request
  check : CheckRequest → Request
  convert : ConvertRequest → Request
  list : ListRequest → Request
  slice : SliceRequest → Request
  claims : ClaimsRequest → Request
  stress : StressRequest → Request

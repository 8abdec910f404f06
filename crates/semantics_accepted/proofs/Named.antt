-- What a name means stands where its number says.
use Rattle.std.proofs.Common.{◌≡◌, ℕ, suc, ◌+◌, ◌<◌, Bool, true, false, cond, Option, Some, None, List, [], ◌∷◌, length, refl, subst, ap, ◌∙◌, arith, slice_get}
use Rattle.std.specs.Prelude.{bytes_eq}
use Rattle.std.proofs.lemmas.Option.{slice_get_within}
use Rattle.spec_ir.specs.declared.ty.Ty.TheVariants.{Data as DataTy}
use Rattle.spec_ir.specs.Environment.{Environment, Scope, Case, Data, Signature, Constructor, Function, Variable, field_types, case_from, constructor_from, constructor_named, function_from, function_named, variable_from, variable_named, or_else}
use Rattle.spec_ir.specs.Texts.{case_at, fields_at}

-- ---- variables
pub record VariableAt (n : ℕ) (scope : Scope) (v : Variable) : Type 0 where
  pub k : ℕ
  pub name : List ℕ
  pub place : v.place ≡ n + k
  pub there : slice_get scope k ≡ Some (name, v.ty)

variable_found : (n : ℕ) (scope : Scope) (name : List ℕ) (v : Variable) → variable_from n scope name ≡ Some v → VariableAt n scope v
variable_found n [] name v h = absurd cc
variable_found n (b ∷ rest) name v h = at (variable_from (n + 1) rest name) refl (λ k. variable_found (n + 1) rest name v k) (bytes_eq b.0 name) h
  where
    at : (o : Option Variable) → variable_from (n + 1) rest name ≡ o → (variable_from (n + 1) rest name ≡ Some v → VariableAt (n + 1) rest v)
        → (same : Bool) → or_else o (cond same (Some (record { place = n; ty = b.1 })) None) ≡ Some v → VariableAt n (b ∷ rest) v
    at (Some x) e later same k =
        let r = later (e ∙ k) in
        record { k = suc r.k; name = r.name; place = omega (arith, r.place); there = r.there }
    at None e later true k =
        let is : record { place = n; ty = b.1 } ≡ v = cc in
        subst (VariableAt n (b ∷ rest)) is (record { k = 0; name = b.0; place = omega arith; there = refl })
    at None e later false k = absurd cc

pub variable_there : (scope : Scope) (name : List ℕ) (v : Variable) → variable_named scope name ≡ Some v → (nm : List ℕ) × (slice_get scope v.place ≡ Some (nm, v.ty))
variable_there scope name v h =
    let r = variable_found 0 scope name v h in
    let place : r.k ≡ v.place = omega (arith, r.place) in
    (r.name, subst (λ k. slice_get scope k ≡ Some (r.name, v.ty)) place r.there)

-- ---- functions
pub record FunctionAt (n : ℕ) (funs : List Signature) (f : Function) : Type 0 where
  pub k : ℕ
  pub number : f.fun ≡ n + k
  pub there : slice_get funs k ≡ Some f.signature

function_found : (n : ℕ) (funs : List Signature) (name : List ℕ) (f : Function) → function_from n funs name ≡ Some f → FunctionAt n funs f
function_found n [] name f h = absurd cc
function_found n (s ∷ rest) name f h = at (bytes_eq s.name name) (λ k. function_found (n + 1) rest name f k) h
  where
    at : (b : Bool) → (function_from (n + 1) rest name ≡ Some f → FunctionAt (n + 1) rest f)
        → cond b (Some (record { fun = n; signature = s })) (function_from (n + 1) rest name) ≡ Some f → FunctionAt n (s ∷ rest) f
    at true later k =
        let is : record { fun = n; signature = s } ≡ f = cc in
        subst (FunctionAt n (s ∷ rest)) is (record { k = 0; number = omega arith; there = refl })
    at false later k = let r = later k in record { k = suc r.k; number = omega (arith, r.number); there = r.there }

pub function_there : (env : Environment) (name : List ℕ) (f : Function) → function_named env name ≡ Some f → slice_get env.funs f.fun ≡ Some f.signature
function_there env name f h =
    let r = function_found 0 env.funs name f h in
    let place : r.k ≡ f.fun = omega (arith, r.number) in
    subst (λ k. slice_get env.funs k ≡ Some f.signature) place r.there

-- ---- constructors
pub record CaseAt (t n : ℕ) (cs : List Case) (c : Constructor) : Type 0 where
  pub k : ℕ
  pub x : Case
  pub ty : c.ty ≡ t
  pub number : c.case ≡ n + k
  pub there : slice_get cs k ≡ Some x
  pub fields : field_types x ≡ c.fields

case_found : (t n : ℕ) (cs : List Case) (name : List ℕ) (c : Constructor) → case_from t n cs name ≡ Some c → CaseAt t n cs c
case_found t n [] name c h = absurd cc
case_found t n (x ∷ rest) name c h = at (bytes_eq x.name name) (λ k. case_found t (n + 1) rest name c k) h
  where
    at : (b : Bool) → (case_from t (n + 1) rest name ≡ Some c → CaseAt t (n + 1) rest c)
        → cond b (Some (record { ty = t; case = n; fields = field_types x })) (case_from t (n + 1) rest name) ≡ Some c → CaseAt t n (x ∷ rest) c
    at true later k =
        let is : record { ty = t; case = n; fields = field_types x } ≡ c = cc in
        subst (CaseAt t n (x ∷ rest)) is (record { k = 0; x = x; ty = refl; number = omega arith; there = refl; fields = refl })
    at false later k =
        let r = later k in
        record { k = suc r.k; x = r.x; ty = r.ty; number = omega (arith, r.number); there = r.there; fields = r.fields }

pub record DataAt (t : ℕ) (ds : List Data) (c : Constructor) : Type 0 where
  pub k : ℕ
  pub d : Data
  pub x : Case
  pub ty : c.ty ≡ t + k
  pub there : slice_get ds k ≡ Some d
  pub case_there : slice_get d.cases c.case ≡ Some x
  pub fields : field_types x ≡ c.fields

data_found : (t : ℕ) (ds : List Data) (name : List ℕ) (c : Constructor) → constructor_from t ds name ≡ Some c → DataAt t ds c
data_found t [] name c h = absurd cc
data_found t (d ∷ rest) name c h = at (case_from t 0 d.cases name) refl (λ k. data_found (t + 1) rest name c k) h
  where
    at : (o : Option Constructor) → case_from t 0 d.cases name ≡ o → (constructor_from (t + 1) rest name ≡ Some c → DataAt (t + 1) rest c)
        → or_else o (constructor_from (t + 1) rest name) ≡ Some c → DataAt t (d ∷ rest) c
    at None e later k =
        let r = later k in
        record { k = suc r.k; d = r.d; x = r.x; ty = omega (arith, r.ty); there = r.there; case_there = r.case_there; fields = r.fields }
    at (Some y) e later k =
        let same : y ≡ c = cc in
        let r = case_found t 0 d.cases name c (e ∙ ap Some same) in
        let place : r.k ≡ c.case = omega (arith, r.number) in
        record { k = 0; d = d; x = r.x; ty = omega (arith, r.ty); there = refl; case_there = subst (λ i. slice_get d.cases i ≡ Some r.x) place r.there; fields = r.fields }

-- the fields of the constructor of that number are those of the constructor that was found
pub constructor_fields : (env : Environment) (name : List ℕ) (c : Constructor) → constructor_named env name ≡ Some c → fields_at (case_at env (DataTy c.ty) c.case) ≡ c.fields
constructor_fields env name c h =
    let r = data_found 0 env.datas name c h in
    let place : r.k ≡ c.ty = omega (arith, r.ty) in
    let there : slice_get env.datas c.ty ≡ Some r.d = subst (λ t. slice_get env.datas t ≡ Some r.d) place r.there in
    rw (there, r.case_there) r.fields

pub constructor_declared : (env : Environment) (name : List ℕ) (c : Constructor) → constructor_named env name ≡ Some c → c.ty < length env.datas
constructor_declared env name c h =
    let r = data_found 0 env.datas name c h in
    let place : r.k ≡ c.ty = omega (arith, r.ty) in
    omega (arith, place, slice_get_within env.datas r.k r.d r.there)

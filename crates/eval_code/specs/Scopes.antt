-- Core terms whose variables are in scope.
use Rattle.std.specs.Prelude.{◌≡◌, ⊤, ℕ, zero, suc, ◌+◌, ◌<◌, length}
use Rattle.spec_ir.specs.CoreTerms as t
use Rattle.spec_ir.specs.CoreTerms.{Core, Cores}
use Rattle.eval_code.specs.Valid.{EachRow}
use Rattle.eval_code.specs.Lowered.{taken}

-- n variables are in scope; each row that a decision picks names as many as its arm takes
abbrev mutual
  pub InScope : ℕ → Core → Type 0
  InScope n (t.var k) = k < n
  InScope n (t.flag b) = ⊤
  InScope n (t.word w v) = ⊤
  InScope n (t.un op w x) = InScope n x
  InScope n (t.bin op w x y) = InScope n x × InScope n y
  InScope n (t.test k w x y) = InScope n x × InScope n y
  InScope n (t.cast kind from to x) = InScope n x
  InScope n (t.let_in x y) = InScope n x × InScope (suc n) y
  InScope n (t.if_else k x y) = InScope n k × InScope n x × InScope n y
  InScope n (t.choose x by arms) = InScope n x × EachRow (λ r binds. (length binds ≡ taken r by) × ArmInScope (n + length binds) arms r) by
  InScope n (t.make ty k args) = AllInScope n args
  InScope n (t.call f args) = AllInScope n args
  InScope n (t.get m x k) = InScope n x × InScope n k
  InScope n (t.put m x k v) = InScope n x × InScope n k × InScope n v

  pub AllInScope : ℕ → Cores → Type 0
  AllInScope n t.no_core = ⊤
  AllInScope n (t.core_then x rest) = InScope n x × AllInScope n rest

  -- arm number r, if there is one
  pub ArmInScope : ℕ → Cores → ℕ → Type 0
  ArmInScope n t.no_core r = ⊤
  ArmInScope n (t.core_then x rest) zero = InScope n x
  ArmInScope n (t.core_then x rest) (suc r) = ArmInScope n rest r

-- What a case speaks of.
use Rattle.std.specs.Prelude.{◌≡◌, IsTrue}
use Rattle.spec_ir.specs.Views.{specification}
use Rattle.domain_affine_laws.specs.Calls.{is_for}
use Rattle.domain_affine_laws.specs.Tracked.{tracked_cells}
use Rattle.test_affine_text.specs.declared.setting.Setting.{Setting}

-- The domain is one for the specification, and the cells are those that it tracks.
pub record IsSetting (s : Setting) : Type 0 where
  pub made : IsTrue (is_for s.domain.now (specification s.spec.now))
  pub tracked : s.ctx.now ≡ tracked_cells s.domain.now

-- The specifications that are shipped.
use Rattle.std.specs.Prelude.{ℕ, List}
use Rattle.program_spec_powerpc.specs.declared.specification.TheConstants as ppc
use Rattle.program_spec_riscv.specs.declared.specification.TheConstants as rv

unfoldable pub power_pc_text : List ℕ
power_pc_text = ppc.TEXT.now

unfoldable pub risc_v_text : List ℕ
risc_v_text = rv.TEXT.now

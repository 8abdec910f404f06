use Rattle.std.proofs.Common.{◌≡◌, ◌-◌, ◌≤◌, ◌++◌, IsTrue, vec_len}
use Rattle.support_io.specs.InputState.{InputsKept, StillOpen}
use Rattle.support_io.proofs.whole_read.read_opened.Given as goal

-- what was read so far, followed by what is left, is what was left at first
abbrev pub invariant-loop-bytes : goal.invariant-loop-bytes
invariant-loop-bytes g l = record {
  kept : InputsKept (g.I.Inputs.state l.initial.inputs) (g.I.Inputs.state l.inputs);
  no_fault : (g.I.Inputs.state l.inputs).faults ≡ (g.I.Inputs.state l.initial.inputs).faults;
  still_open : StillOpen (g.I.Inputs.state l.initial.inputs) (g.I.Inputs.state l.inputs);
  within : vec_len l.bytes ≤ l.limit;
  read : IsTrue (g.I.Inputs.state l.initial.inputs).tells → l.bytes.items ++ (g.I.Inputs.state l.inputs).left ≡ (g.I.Inputs.state l.initial.inputs).left;
}

abbrev pub decreases-loop-bytes : goal.decreases-loop-bytes
decreases-loop-bytes g l = l.limit - vec_len l.bytes

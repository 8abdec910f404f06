use Rattle.std.proofs.Common.{length, take, ◌-◌, ◌≡◌, ◌+◌, ◌≤◌}
use Rattle.support_io.specs.SinkState.{Appends, SinkKept}
use Rattle.support_io.proofs.whole_write.write_whole.Given as goal

-- the first `count` bytes are written
abbrev pub invariant-loop-count : goal.invariant-loop-count
invariant-loop-count g l = record {
  kept : SinkKept (g.S.Sink.state l.initial.sink) (g.S.Sink.state l.sink);
  no_fault : (g.S.Sink.state l.sink).faults ≡ (g.S.Sink.state l.initial.sink).faults;
  within : l.count ≤ length l.bytes;
  written : Appends (g.S.Sink.state l.initial.sink) (g.S.Sink.state l.sink) (take l.count l.bytes);
  room : (g.S.Sink.state l.initial.sink).room ≤ (g.S.Sink.state l.sink).room + l.count;
}

abbrev pub decreases-loop-count : goal.decreases-loop-count
decreases-loop-count g l = length l.bytes - l.count

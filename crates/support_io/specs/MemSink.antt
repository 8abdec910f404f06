-- How a sink in memory stands.
use Rattle.std.specs.Prelude.{ℕ, Vec, true}
use Rattle.std.specs.declared.alloc.Global.{Global}
use Rattle.support_io.specs.SinkState.{SinkState}
use Rattle.support_io.specs.declared.failing_calls.FailingCalls.{FailingCalls}
use Rattle.support_io.specs.declared.mem_sink.MemSink.{MemSink}

-- the buffer of what was written
abbrev pub buffer_of : MemSink → Vec ℕ Global
buffer_of sink = sink.bytes

-- the calls that are to fail, and the number of the next call
abbrev pub calls_of : MemSink → FailingCalls
calls_of sink = sink.calls

-- how many bytes a call takes at most
abbrev pub most_of : MemSink → ℕ
most_of sink = sink.most

-- no bytes are sure to be taken
abbrev pub state_of : MemSink → SinkState
state_of sink = record { tells = true; written = sink.bytes.items; faults = sink.faults; room = 0 }

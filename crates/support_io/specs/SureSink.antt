-- How a sink in memory that does not fail stands.
use Rattle.std.specs.Prelude.{ℕ, Vec, true}
use Rattle.std.specs.declared.alloc.Global.{Global}
use Rattle.support_io.specs.Append.{spare_of}
use Rattle.support_io.specs.SinkState.{SinkState}
use Rattle.support_io.specs.declared.sure_sink.SureSink.{SureSink}

-- the buffer of what was written
abbrev pub buffer_of : SureSink → Vec ℕ Global
buffer_of sink = sink.bytes

-- its room is the spare memory of its buffer
abbrev pub state_of : SureSink → SinkState
state_of sink = record { tells = true; written = sink.bytes.items; faults = sink.faults; room = spare_of sink.bytes }

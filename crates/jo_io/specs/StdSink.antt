-- What a `StdSink` shows.
use Rattle.std.specs.Prelude.{ℕ}
use Rattle.jo_io.specs.declared.std_sink.StdSink.{StdSink}

-- the stream that it writes to
abbrev pub stream_of : {W : Type 0} → StdSink W → W
stream_of sink = sink.stream

-- how many puts have failed
abbrev pub faults_of : {W : Type 0} → StdSink W → ℕ
faults_of sink = sink.faults

-- What contracts see of the sources and sinks over the readers and writers of std.
use Rattle.std.specs.Prelude.{ℕ}
use Rattle.apl_outside.specs.declared.adapters.StdSource.{StdSource}
use Rattle.apl_outside.specs.declared.adapters.StdSink.{StdSink}

-- the reader that a source reads from
abbrev pub reader_of : {R : Type 0} → StdSource R → R
reader_of source = source.inner

-- how often a source has failed
abbrev pub source_faults : {R : Type 0} → StdSource R → ℕ
source_faults source = source.faults

-- the writer that a sink writes to
abbrev pub writer_of : {W : Type 0} → StdSink W → W
writer_of sink = sink.inner

-- how often a sink has failed
abbrev pub sink_faults : {W : Type 0} → StdSink W → ℕ
sink_faults sink = sink.faults

-- The name at the beginning of a trace's question, as an index into the table of names.
use Rattle.std.specs.Prelude.{ℕ, List}
use Rattle.rmm_trace.specs.declared.word.TraceWord.{TraceWord}
use Rattle.rmm_trace.specs.Compare.{first_of, place_of}

-- the index of the name that a question begins with; if it begins with no name, the index of `-`, which names no
-- question
abbrev pub first_place : List TraceWord → ℕ
first_place ws = place_of (first_of ws).value

mod PackedLemmas
mod CutLemmas
mod DataLemmas
mod ZeroLemmas
mod LongestLemmas
mod PackingLemmas
mod ReadingLemmas

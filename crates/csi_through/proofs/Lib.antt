mod CopyLemmas
mod FaultLemmas
mod OpeningLemmas
mod ReadLemmas
mod StoppedLemmas

mod GivenLemmas
mod ReadingLemmas

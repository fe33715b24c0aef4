mod CallLemmas
mod WaitingLemmas

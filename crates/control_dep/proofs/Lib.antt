mod PairLemmas
mod WayLemmas

mod UseLemmas

mod FirstLemmas
mod SuperLemmas
mod UseLemmas
mod MemberLemmas
mod BodyLemmas

mod PreludeLists
mod EachText
mod EachRead

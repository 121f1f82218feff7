use Rattle.dependence.proofs.RowLemmas.{first_catches, row_is_first, passes_all, none_for}
use Rattle.dependence.proofs.laws.rows_catch_alike.Goals as goal

pub returns-clause-first : goal.returns-clause-first
returns-clause-first c = λ program m pc k o code found typed n row. (first_catches program m pc k o code found typed n row, row_is_first program m pc k o code found typed n row)

pub returns-clause-none : goal.returns-clause-none
returns-clause-none c = λ program m pc k o code found typed. (passes_all program m pc k o code found typed, none_for program m pc k o code found typed)

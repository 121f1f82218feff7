use Rattle.asm_text.proofs.ByItems.{empty_is, line_is}
use Rattle.asm_text.proofs.laws.lines_are_by_items.Goals as goal

pub returns-clause-empty : goal.returns-clause-empty
returns-clause-empty c = λ line. empty_is line

pub returns-clause-statement : goal.returns-clause-statement
returns-clause-statement c = λ line statement. line_is line statement

use Rattle.std.proofs.Common.{rules, Contains}
use Rattle.typing_heights.proofs.MoveLemmas.{no_row, not_over, handler_added}
use Rattle.typing_heights.proofs.moves.add_handler.Goals as goal

pub returns-in_default : goal.returns-in_default
returns-in_default c = no_row c.args.rows.now c.args.from c.args.place (Contains c.args.moves.now.items) (search rules)

pub returns-then-not-covers : goal.returns-then-not-covers
returns-then-not-covers c = not_over c.args.rows.now c.args.from c.args.place (Contains c.args.moves.now.items) c.in-Some.row.now (search rules) (search rules)

pub returns : goal.returns
returns c = handler_added c.args.rows.now c.args.from c.args.place c.args.moves.now.items c.push.new.self.items c.in-Some.row.now (search rules) (search rules) (search rules)

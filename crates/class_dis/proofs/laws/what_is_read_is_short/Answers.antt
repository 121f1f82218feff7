use Rattle.class_dis.proofs.ListedWhole.{short_codes}
use Rattle.class_dis.proofs.laws.what_is_read_is_short.Goals as goal

pub returns : goal.returns
returns c bytes class is = short_codes class.pool class.methods (c.what_is_read_fits.ensures bytes class is).methods

use Rattle.joana_top.proofs.commands.dis.list_file.Goals as goal

pub listing-requires : goal.listing-requires
listing-requires c = c.what_is_read_is_short.ensures c.args.file.now c.in-Ok.class c.in-Ok.ensures.class

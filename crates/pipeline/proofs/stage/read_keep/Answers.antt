use Rattle.pipeline.proofs.Cutting.{keep_reads, refused_reads}
use Rattle.pipeline.proofs.stage.read_keep.Goals as goal

pub returns-in-Ok : goal.returns-in-Ok
returns-in-Ok c =
    keep_reads c.args.n c.min.result c.length-len.result c.args.frame c.narrow.new.frame c.args.backs.now.items c.narrow.new.backs.items
    c.length-len.ensures c.min.ensures c.in-Ok.ensures.bytes c.in-Ok.ensures.sheds c.in-Ok.ensures.handed c.in-Ok.ensures.totals

pub returns-in-Err : goal.returns-in-Err
returns-in-Err c = refused_reads _ _ _ _ _ c.in-Err.ensures.refused c.in-Err.ensures.one

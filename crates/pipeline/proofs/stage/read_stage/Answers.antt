use Rattle.pipeline.proofs.Reading.{gives_as}
use Rattle.pipeline.proofs.stage.read_stage.Goals as goal

pub returns-in-Strip-clause-gives : goal.returns-in-Strip-clause-gives
returns-in-Strip-clause-gives g c =
    gives_as g.H.Handler.machine _ _ _ _ c.in-Strip.is (c.read_strip.ensures.reads c.args.mint.now).gives

pub returns-in-Strip-clause-works : goal.returns-in-Strip-clause-works
returns-in-Strip-clause-works g c = λ plain. (c.read_strip.ensures.reads c.args.mint.now).works

pub returns-in-Keep-clause-gives : goal.returns-in-Keep-clause-gives
returns-in-Keep-clause-gives g c =
    gives_as g.H.Handler.machine _ _ _ _ c.in-Keep.is (c.read_keep.ensures.reads c.args.mint.now).gives

pub returns-in-Keep-clause-works : goal.returns-in-Keep-clause-works
returns-in-Keep-clause-works g c = λ plain. (c.read_keep.ensures.reads c.args.mint.now).works

pub returns-in-Min-clause-gives : goal.returns-in-Min-clause-gives
returns-in-Min-clause-gives g c =
    gives_as g.H.Handler.machine _ _ _ _ c.in-Min.is ((c.read_min.ensures c.args.backs.now.items).reads c.args.mint.now).gives

pub returns-in-Min-clause-memory : goal.returns-in-Min-clause-memory
returns-in-Min-clause-memory g c = λ cut one. (c.read_min.ensures c.args.backs.now.items).memory one

pub returns-in-Min-clause-works : goal.returns-in-Min-clause-works
returns-in-Min-clause-works g c = λ plain. ((c.read_min.ensures c.args.backs.now.items).reads c.args.mint.now).works

pub returns-in-Min-clause-sheds : goal.returns-in-Min-clause-sheds
returns-in-Min-clause-sheds g c = λ cut. (c.read_min.ensures c.args.backs.now.items).sheds

use Rattle.std.proofs.Common.{arith}
use Rattle.frame_batch.specs.Batches.{many_or}
use Rattle.frame_batch.proofs.InWindows.{few, first_ones}
use Rattle.frame_batch.proofs.window_list.WindowList.keep_first.Goals as goal

pub overflow_add-self : goal.overflow_add-self
overflow_add-self c =
    let within = few c.self.inside.from c.self.inside.to c.args.k (many_or c.self.inside.one c.self.inside.many) _ c.self.view_is c.self.invariant.1 c.requires in
    let fits = c.self.invariant.0 in
    omega (arith, within, fits)

pub returns : goal.returns
returns c = first_ones c.self.inside.from c.self.inside.to c.args.k (many_or c.self.inside.one c.self.inside.many) _ c.self.view_is c.self.invariant.1 c.requires

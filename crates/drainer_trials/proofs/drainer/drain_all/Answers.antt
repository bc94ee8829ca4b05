use Rattle.drainer_trials.proofs.drainer.drain_all.Goals as goal

pub returns-clause-drained : goal.returns-clause-drained
returns-clause-drained g c = c.run.ensures.does

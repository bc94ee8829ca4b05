use Rattle.std.proofs.Common.{arith, refl}
use Rattle.pipeline.proofs.Working.{works_same}
use Rattle.pipeline.proofs.Thinning.{sheds_self}
use Rattle.pipeline.proofs.Meanings.{under, not_under}
use Rattle.pipeline.proofs.stage.read_min.Goals as goal

pub returns-then-length-n : goal.returns-then-length-n
returns-then-length-n c = λ backs. record {
  reads = λ mint. record {
    gives = under c.args.n _ (let size = c.length.ensures in let less = c.if-length-n.true in omega arith);
    works = works_same mint c.args.frame backs;
  };
  sheds = sheds_self c.args.frame;
  memory = λ one. refl;
}

pub returns : goal.returns
returns c = λ backs. record {
  reads = λ mint. record {
    gives = not_under c.args.n _ (let size = c.length.ensures in let most = c.if-length-n.false in omega arith);
    works = works_same mint c.args.frame backs;
  };
  sheds = sheds_self c.args.frame;
  memory = λ one. refl;
}

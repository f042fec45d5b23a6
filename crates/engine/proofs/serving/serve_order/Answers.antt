use Rattle.engine.proofs.ServedLemmas.{by_prediction}
use Rattle.engine.proofs.serving.serve_order.Goals as goal

pub returns-in-Predict : goal.returns-in-Predict
returns-in-Predict g c =
    by_prediction g.R.Source.left g.R.Source.failures g.W.Sink.taken g.W.Sink.failures c.args.source.now c.serve_prediction.new.source c.args.sink.now c.serve_prediction.new.sink
    c.args.order.now c.serve_prediction.result c.in-Predict.lines c.in-Predict.is c.serve_prediction.ensures

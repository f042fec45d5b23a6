use Rattle.engine.proofs.ServedLemmas as served
use Rattle.engine.proofs.serving.serve.Goals as goal

pub returns : goal.returns
returns g c =
    record {
      read = served.read _ _ _ _ _ _ _ _ _ _ c.serve_order.ensures;
      written = served.written _ _ _ _ _ _ _ _ _ _ c.serve_order.ensures;
      status = served.status _ _ _ _ _ _ _ _ _ _ c.serve_order.ensures;
      exact = served.exact _ _ _ _ _ _ _ _ _ _ c.serve_order.ensures;
      random = served.random _ _ _ _ _ _ _ _ _ _ c.serve_order.ensures;
      decided = served.is_decided _ _ _ _ _ _ _ _ _ _ c.serve_order.ensures;
      fault = served.fault _ _ _ _ _ _ _ _ _ _ c.serve_order.ensures;
      reads = served.reads _ _ _ _ _ _ _ _ _ _ c.serve_order.ensures;
      writes = served.writes _ _ _ _ _ _ _ _ _ _ c.serve_order.ensures;
      silent = served.silent _ _ _ _ _ _ _ _ _ _ c.serve_order.ensures;
      rest = served.rest _ _ _ _ _ _ _ _ _ _ c.serve_order.ensures;
      unread = served.unread _ _ _ _ _ _ _ _ _ _ c.serve_order.ensures;
      beginning = served.beginning _ _ _ _ _ _ _ _ _ _ c.serve_order.ensures;
    }

-- What is written is read back, and a refusal is the writer's. Assumes nothing.
use mathlib.Core.Path.{sym}
use mathlib.Core.List.{◌++◌}
use lib.ListN.{drop}
use lib.Seq.{length-take-le}
use Rattle.wire.specs.Answers.{answer}
use Rattle.wire.proofs.Search.{leaves_as}
use Rattle.wire.proofs.Stand.{bytes_of}
use Rattle.roundtrip.specs.Roundtrip.{ReadsBack}
use Rattle.roundtrip.proofs.Roundtrip.{written_back, not_written}
use Rattle.roundtrip.proofs.back.back.Goals as goal

pub slice_bounds-marshal-end : goal.slice_bounds-marshal-end
slice_bounds-marshal-end g c = c.lend-room.ensures.1

pub slice_bounds-marshal-end-2 : goal.slice_bounds-marshal-end-2
slice_bounds-marshal-end-2 g c = sym (length-take-le _ _ c.lend-room.ensures.1)

pub returns-in_err-marshal : goal.returns-in_err-marshal
returns-in_err-marshal g c =
    let bytes = bytes_of c.args.src.now (λ i. (c.type_inv.src i).fits) in
    leaves_as (λ r. ReadsBack g.T.TpmUnmarshal.layout (g.T.TpmUnmarshal.parts c.args.x) c.args.src.now c.args.out.now (answer g.T.TpmUnmarshal.parts r) (c.marshal.new.out ++ drop c.lend-room.result c.args.out.now)) _ _
    c.from_residual.ensures
    (not_written _ _ _ _ _ _ _ _ bytes c.measure.ensures c.lend-room.ensures c.marshal.ensures c.in_err-marshal.was)

pub returns : goal.returns
returns g c =
    let bytes = bytes_of c.args.src.now (λ i. (c.type_inv.src i).fits) in
    written_back _ _ _ _ _ _ _ _ bytes c.measure.ensures c.lend-room.ensures c.marshal.ensures c.in_ok-marshal.was c.unmarshal.ensures

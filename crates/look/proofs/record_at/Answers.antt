-- The part that is decoded is the record's sixteen bytes, and what decodes is in range.
use Rattle.std.proofs.Common.{◌≡◌, ◌∙◌, arith}
use Rattle.std.proofs.Math.Nat.{add-sub_cancel_left}
use Rattle.blocks.specs.File.{record_place}
use Rattle.records.specs.Decoded.{decoded}
use Rattle.records.specs.Says.{says}
use Rattle.look.specs.Look.{sixteen}
use Rattle.look.proofs.Laws.{decoded_ranged, sixteen_small}
use Rattle.look.proofs.record_at.Goals as goal

pub returns : goal.returns
returns c =
    let file = c.args.file.now in
    let i = c.args.i in
    let is : says c.decode.result ≡ decoded (sixteen file i) = c.decode.ensures ∙ rw (c.place_of-at.ensures, add-sub_cancel_left (record_place i) 16) in
    (is, rw is (decoded_ranged (sixteen file i) (sixteen_small file i (λ j l. omega (arith, c.type_inv.file j)))))

use Rattle.std.proofs.Common.{arith}
use Rattle.std.proofs.lemmas.List.{take_all}
use Rattle.keep_pack.proofs.Built.{built}
use Rattle.keep_pack.proofs.pack.build_pack.Goals as goal

pub returns : goal.returns
returns g c =
    let all = take_all c.loop-blob.blob-index c.args.blobs.now (omega arith) in
    let items = c.in_ok-extend_from_slice-2.ensures.items in
    built g.B.AsSlice.items c.args.blobs.now c.extend_from_slice-2.new.self.items c.requires.ids c.requires.lengths c.requires.header (cc (all, items))

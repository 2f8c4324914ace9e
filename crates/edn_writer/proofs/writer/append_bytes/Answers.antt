use Rattle.std.proofs.Common.{take}
use Rattle.std.specs.List.{flat_map}
use Rattle.edn_writer.specs.Canonical.{spelling}
use Rattle.edn_writer.proofs.Appending.{begins_after, bytes_none, bytes_more, bytes_all, out_of_memory}
use Rattle.edn_writer.proofs.writer.append_bytes.Goals as goal

pub loop-byte-init : goal.loop-byte-init
loop-byte-init c = bytes_none _ c.args.bytes.now

pub loop-byte-preserved : goal.loop-byte-preserved
loop-byte-preserved c = bytes_more _ _ _ c.args.bytes.now c.loop-byte.byte-index c.loop-byte-test.true c.loop-byte.invariant c.in_ok-append_byte.ensures

pub returns-in_err-append_byte : goal.returns-in_err-append_byte
returns-in_err-append_byte c =
    let old = c.args.text.now.items in
    let new = c.append_byte.new.text.items in
    out_of_memory c.from_residual.result old new (flat_map spelling c.args.bytes.now) c.from_residual.ensures.0
    (begins_after old c.loop-byte.text.items new (flat_map spelling (take c.loop-byte.byte-index c.args.bytes.now)) c.loop-byte.invariant c.in_err-append_byte.ensures)

pub returns : goal.returns
returns c = bytes_all _ _ c.args.bytes.now c.loop-byte.byte-index c.loop-byte-test.false c.loop-byte.invariant

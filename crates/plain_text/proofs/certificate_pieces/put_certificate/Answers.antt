use Rattle.std.proofs.Common.{◌++◌, flat_map, codes, ap, ◌∙◌, refl}
use Rattle.plain_text.specs.Certificates.{close_line, flow_line, head_lines, line}
use Rattle.plain_text.proofs.Pieces.{after}
use Rattle.plain_text.proofs.certificate_pieces.put_certificate.Goals as goal

pub returns : goal.returns
returns c =
    let start = c.args.comparison.now in
    let value = c.args.certificate.now in
    let head = head_lines value.property in
    let flows = flat_map flow_line value.flows in
    let proof = line (codes "proof") in
    let close = close_line value.close in
    let to_head = c.in_ok-put_head.ensures ∙ ap (λ property. start ++ head_lines property) c.bytes.ensures in
    let to_flows = after start head _ flows to_head c.in_ok-put_flows.ensures (ap (flat_map flow_line) c.as_slice.ensures) in
    let to_proof = after start (head ++ flows) _ proof to_flows c.in_ok-put.ensures refl in
    let to_close = after start (head ++ flows ++ proof) _ close to_proof c.in_ok-put_close.ensures (ap close_line c.as_slice-2.ensures) in
    after start (head ++ flows ++ proof ++ close) _ (line (codes "end")) to_close c.in_ok-put-2.ensures refl

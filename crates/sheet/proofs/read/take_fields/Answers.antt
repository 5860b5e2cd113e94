use Rattle.std.proofs.Common.{◌∙◌, arith}
use Rattle.sheet.specs.Bytes.{byte_field, number_field, input_field}
use Rattle.sheet.proofs.Fronts.{six_fronts}
use Rattle.sheet.proofs.Maps.{map_from_bits}
use Rattle.sheet.proofs.read.take_fields.Goals as goal

pub returns : goal.returns
returns c =
    let b = c.in_ok-block.ensures in
    let t = c.in_ok-target.ensures in
    let s = c.in_ok-switch.ensures in
    let i = c.in_ok-input.ensures in
    let p = c.in_ok-setpoint.ensures in
    let o = c.in_ok-output.ensures in (
      map_from_bits _ _ _ _ _ _ _ c.args.map (omega arith)
          (b.0 ∙ c.bit.ensures) (t.0 ∙ c.bit-2.ensures) (s.0 ∙ c.bit-3.ensures) (i.0 ∙ c.bit-4.ensures) (p.0 ∙ c.bit-5.ensures) (o.0 ∙ c.bit-6.ensures) c.bit-round.ensures,
      six_fronts (byte_field c.in_ok-block.block) (byte_field c.in_ok-target.target) (byte_field c.in_ok-switch.switch) (input_field c.in_ok-input.input)
          (number_field c.in_ok-setpoint.setpoint) (number_field c.in_ok-output.output) _ _ _ _ _ _ _ b.1 t.1 s.1 i.1 p.1 o.1,
      (i.2, p.2, o.2),
    )

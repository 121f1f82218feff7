use Rattle.std.proofs.Common.{◌≡◌, ◌++◌, [], ◌∷◌, length, rules}
use Rattle.std.specs.Prelude.{codes, OnOk}
use Rattle.std.proofs.lemmas.Result.{on_ok_weaker}
use Rattle.class_dis.specs.Words.{line}
use Rattle.class_dis.proofs.BodyLines.{body_is}
use Rattle.class_dis.proofs.InsnSteps.{all_placed}
use Rattle.class_dis.proofs.bodies.push_body.Goals as goal

pub push_insns-requires : goal.push_insns-requires
push_insns-requires c =
    let code = c.args.code.now.bytes in
    rw (c.as_slice-2.ensures, c.in_ok-insns.ensures, c.as_slice-bytes.ensures) (all_placed code (length code) 0)

pub returns : goal.returns
returns c =
    let insns = rw (c.as_slice-2.ensures, c.in_ok-insns.ensures, c.as_slice-bytes.ensures) at c.in_ok-push_insns.ensures in
    let at_end = rw (c.as_slice-bytes.ensures) at c.in_ok-push_label_line.ensures in
    let rows = rw c.as_slice-3.ensures at c.in_ok-push_rows.ensures in
    let end : OnOk c.extend_from_slice.result (c.extend_from_slice.new.self.items ≡ c.push_rows.new.out.items ++ line (codes "end" ∷ [])) = search rules in
    on_ok_weaker c.extend_from_slice.result (λ e.
    body_is c.args.pool.now c.args.code.now c.in_ok-marks.marks c.args.out.now.items c.push_insns.new.out.items c.push_label_line.new.out.items c.push_rows.new.out.items c.extend_from_slice.new.self.items
    c.in_ok-marks.ensures insns at_end rows e) end

use Rattle.std.proofs.Common.{refl, arith}
use Rattle.class_write.proofs.tests.class.Goals as goal

pub returns : goal.returns
returns c =
    let interfaces = rw c.new-interfaces.ensures at c.in_ok-add.ensures in
    let fields = rw c.new-fields.ensures at c.in_ok-add-2.ensures in
    let methods = rw (c.new-methods.ensures, c.in_ok-code.ensures) at c.in_ok-add-3.ensures in
    rw (c.in_ok-pool.ensures, interfaces, fields, methods) (record {
      minor = omega arith;
      major = omega arith;
      pool = record { few = omega arith; entries = (omega arith, (omega arith, (omega arith, (omega arith, (omega arith, tt))))); spaced = (refl, (refl, (refl, (refl, (refl, refl))))) };
      flags = omega arith;
      this_class = omega arith;
      super_class = omega arith;
      few_interfaces = omega arith;
      interfaces = (omega arith, tt);
      few_fields = omega arith;
      fields = (record { flags = omega arith; name = omega arith; desc = omega arith; constant = tt }, tt);
      few_methods = omega arith;
      methods = (
        record {
          flags = omega arith;
          name = omega arith;
          desc = omega arith;
          code = (record { max_stack = omega arith; max_locals = omega arith; bytes = omega arith; few_rows = omega arith; rows = (record { start = omega arith; end = omega arith; handler = omega arith; catch_type = omega arith }, tt) }, (3, refl));
        },
        tt,
      );
    })

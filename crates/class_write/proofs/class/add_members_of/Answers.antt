use Rattle.std.proofs.Common.{rules, ◌≡◌, ◌++◌, OnOk, subst}
use Rattle.class_write.specs.declared.members.AttributeNames.{AttributeNames}
use Rattle.class_write.specs.Spelling.{counted}
use Rattle.class_write.specs.Named.{names_in, field_named, method_named}
use Rattle.class_write.proofs.class.add_members_of.Goals as goal

pub returns : goal.returns
returns c =
    let class = c.args.class.now in
    let Added : AttributeNames → Type 0 = λ names. OnOk c.add_members.result (c.add_members.new.out.items ≡ c.args.out.now.items ++ (counted (field_named names) class.fields ++ counted (method_named names) class.methods)) in
    let added : Added c.attribute_names-names.result = search rules in
    let names : c.attribute_names-names.result ≡ names_in class.pool = search rules in
    subst Added names added

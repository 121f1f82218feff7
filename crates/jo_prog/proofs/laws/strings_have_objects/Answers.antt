use Rattle.jo_prog.proofs.Strings.{has_address, text_at_address, address_of_text, object_at_address}
use Rattle.jo_prog.proofs.laws.strings_have_objects.Goals as goal

pub returns-clause-each : goal.returns-clause-each
returns-clause-each c = has_address

pub returns-clause-text : goal.returns-clause-text
returns-clause-text c = text_at_address

pub returns-clause-one : goal.returns-clause-one
returns-clause-one c = address_of_text

pub returns-clause-object : goal.returns-clause-object
returns-clause-object c = object_at_address

use Rattle.jo_prog.proofs.ArrayLemmas.{fits_elements, fits_object, fits_none}
use Rattle.jo_prog.proofs.laws.arrays_fit_by_elements.Goals as goal

pub returns-clause-elements : goal.returns-clause-elements
returns-clause-elements c = fits_elements

pub returns-clause-array : goal.returns-clause-array
returns-clause-array c = fits_object

pub returns-clause-no_array : goal.returns-clause-no_array
returns-clause-no_array c = fits_none

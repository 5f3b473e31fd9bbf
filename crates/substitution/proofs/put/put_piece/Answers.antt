-- `substitution::put::put_piece` meets its contract. Assumes nothing.
use Rattle.substitution.proofs.Writing.{images, prefix_is}
use Rattle.substitution.proofs.put.put_piece.Goals as goal

pub slice_bounds-lookup-end : goal.slice_bounds-lookup-end
slice_bounds-lookup-end c = search images

pub slice_bounds-lookup-end-2 : goal.slice_bounds-lookup-end-2
slice_bounds-lookup-end-2 c = search prefix_is

pub lookup-requires : goal.lookup-requires
lookup-requires c = search images

pub enum_told-1 : goal.enum_told-1
enum_told-1 c = search images

pub put_written-requires : goal.put_written-requires
put_written-requires c = search images

pub enum_known-s : goal.enum_known-s
enum_known-s c = search images

pub put_value-requires : goal.put_value-requires
put_value-requires c = search images

pub shape_of-area-in-None : goal.shape_of-area-in-None
shape_of-area-in-None c = search images

pub returns-in-None : goal.returns-in-None
returns-in-None c = search images

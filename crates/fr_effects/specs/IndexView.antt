-- The index that an index in code is: the public contracts of `Index` speak of what `index_of` gives.
use Rattle.fr_effects.specs.declared.index.Index.TheInside.{Inside}
use Rattle.fr_effects.specs.Index.{IndexOf}

-- its lists, read from the code's
abbrev pub index_of : Inside → IndexOf
index_of i = record { writers = i.writers; lives = i.lives; leavers = i.leavers.items }

pub mod LinesBySlot

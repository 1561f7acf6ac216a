pub mod WholeAlone

-- Frequency and phase of a tidal constituent. Read the words of binary64 (crates/binary64/specs), then Delaunay and Tidal; Claims has a word of what is proved.
pub mod Delaunay
pub mod Tidal
pub mod Claims

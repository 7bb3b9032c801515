mod Differing
mod Overlays
mod Peaking
